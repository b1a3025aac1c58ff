-- The part of a dropped datagram that shows what is wrong with it. Ours.
use Rattle.std.specs.Prelude.{◌≡◌, ◌⊎◌, ℕ, min, take, List, [], Option, Some}
use Rattle.roam_log.specs.declared.clue.AskedRealm.{AskedRealm}
use Rattle.roam_log.specs.declared.clue.Clue.{Clue}
use Rattle.roam_log.specs.declared.clue.Clue.TheVariants as clue
use Rattle.roam_log.specs.declared.origin.Origin.{Origin}
use Rattle.roam_log.specs.declared.origin.Origin.TheVariants as origin

-- the first octets of a realm's name
abbrev pub octets_of : AskedRealm → List ℕ
octets_of realm = take (min realm.len 47) realm.octets

-- a clue, with the octets of the realm that is asked for
pub data ClueView : Type 0 where
  attribute : ℕ → ClueView
  code : ℕ → ClueView
  no_user_name : ClueView
  no_realm_part : ClueView
  asks_for : List ℕ → ClueView
  behind : ℕ → ClueView
  ahead : ℕ → ClueView

abbrev pub shown_clue : Clue → ClueView
shown_clue (clue.Attribute kind) = attribute kind
shown_clue (clue.Code n) = code n
shown_clue clue.NoUserName = no_user_name
shown_clue clue.NoRealmPart = no_realm_part
shown_clue (clue.AsksFor realm) = asks_for (octets_of realm)
shown_clue (clue.Behind seconds) = behind seconds
shown_clue (clue.Ahead seconds) = ahead seconds

-- octets of a packet as a line shows them: themselves, or nothing
abbrev pub IsShown : List ℕ → List ℕ → Type 0
IsShown octets shown = (shown ≡ octets) ⊎ (shown ≡ [])

-- the octets of the realm that what was refused asks for
abbrev pub asked_in : Option Origin → List ℕ
asked_in (Some (origin.Explained place from (clue.AsksFor realm))) = octets_of realm
asked_in _ = []

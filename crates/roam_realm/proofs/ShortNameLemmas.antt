-- The name with which a request goes out is short: a peer's by its range, and a home server's request has none.
use Rattle.std.proofs.Common.{◌≡◌, ℕ, zero, suc, ◌≤◌, List, [], ◌∷◌, Option, Some, None, String, Global, map, option_map, length, string_bytes, subst, refl, inl, inr}
use Rattle.std.specs.Prelude.{slice_get, ◌==◌}
use Rattle.std.specs.Option.{ForSome}
use Rattle.std.proofs.lemmas.Bool.{cases_Bool}
use Rattle.roam_wire.specs.declared.code.TheConstants.{COA_REQUEST}
use Rattle.roam_conf.specs.declared.peer.Peer.{Peer}
use Rattle.roam_conf.specs.declared.place.Link.{Link}
use Rattle.roam_conf.specs.declared.place.Link.TheVariants as link
use Rattle.roam_conf.specs.Config.{RealmView}
use Rattle.roam_conf.specs.Parts.{shown_peer}
use Rattle.roam_forward.specs.Shaped.{HasShortName, no_shaping}
use Rattle.roam_admission.specs.Shapings.{shaping_between}
use Rattle.roam_pending.specs.declared.key.Requester.{Requester}
use Rattle.roam_pending.specs.declared.key.Requester.TheVariants as requester
use Rattle.roam_realm.specs.RealmConfig.{RealmConfig}
use Rattle.roam_realm.specs.Shapings.{shaping_of}

no-name : HasShortName no_shaping
no-name name is = absurd (let none : None ≡ Some name = is in cc)

short-text : (o : Option (String Global))
    → ForSome o (λ s. (2 ≤ length (string_bytes s)) × (length (string_bytes s) ≤ 253))
    → ForSome (option_map string_bytes o) (λ name. length name ≤ 253)
short-text None short name is = absurd (let none : None ≡ Some name = is in cc)
short-text (Some s) short name is =
    let both : Some (string_bytes s) ≡ Some name = is in
    let same : string_bytes s ≡ name = cc in
    subst (λ (n : List ℕ). length n ≤ 253) same (short s refl).1

pub peers-short : (peers : List Peer) (peer : ℕ) (realm : RealmView)
    → HasShortName (shaping_between (slice_get (map shown_peer peers) peer) (Some realm))
peers-short [] peer realm = no-name
peers-short (p ∷ ps) zero realm = short-text p.operator_name p.operator_name_length
peers-short (p ∷ ps) (suc place) realm = peers-short ps place realm

pub request-short : (c : RealmConfig) → ((peer : ℕ) (realm : RealmView)
    → HasShortName (shaping_between (slice_get c.peers peer) (Some realm)))
    → (r : Requester) (l : Link) (code : ℕ) → HasShortName (shaping_of c r code l)
request-short c short (requester.Peer peer) l code = short peer c.realm
request-short c short (requester.Home server) (link.Auth place out) code = no-name
request-short c short (requester.Home server) (link.Acct place out) code = no-name
request-short c short (requester.Home server) (link.Coa peer out) code =
    elim (cases_Bool (code == COA_REQUEST)) [
      | inl coa ↦ rw coa no-name
      | inr other ↦ rw other no-name
    ]

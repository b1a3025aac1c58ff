-- Ledgers of sessions as octets, as a file keeps them from one run of a server to the next. Ours.
use Rattle.std.specs.Prelude.{ℕ, Bool, true, false, List, [], ◌∷◌, ◌++◌, length, Option, Some, None, codes}
use Rattle.std.specs.List.{flat_map}

-- a session that was open, by names: of its peer, of its access server, where these are kept (RFC 2865, sections 5.4
-- and 5.32; RFC 3162, section 2.1), and its Acct-Session-Id (RFC 2866, section 5.5)
pub record SavedSession : Type 0 where
  pub peer : List ℕ
  pub address : Option (List ℕ)
  pub identifier : Option (List ℕ)
  pub ipv6 : Option (List ℕ)
  pub id : List ℕ

-- what stands in the file: a realm's name, and whether its sessions are told by their access servers; or a session of
-- the realm that stands last before it
pub data SavedItem : Type 0 where
  realm : (name : List ℕ) → (own_sessions : Bool) → SavedItem
  session : SavedSession → SavedItem

-- whose file it is, and in which form
abbrev pub family : List ℕ
family = codes "roam ledgers "

abbrev pub version : List ℕ
version = codes "2\n"

abbrev pub head : List ℕ
head = family ++ version

-- octets behind how many they are, which is one octet: at most 255
abbrev pub text : List ℕ → List ℕ
text octets = length octets ∷ octets

-- none, or one behind a 1
abbrev pub optional : Option (List ℕ) → List ℕ
optional None = 0 ∷ []
optional (Some octets) = 1 ∷ text octets

abbrev pub flag : Bool → ℕ
flag false = 0
flag true = 1

abbrev pub session_text : SavedSession → List ℕ
session_text s = text s.peer ++ optional s.address ++ optional s.identifier ++ optional s.ipv6 ++ text s.id

-- a realm stands behind a 1, a session behind a 2
abbrev pub item_text : SavedItem → List ℕ
item_text (realm name own_sessions) = 1 ∷ flag own_sessions ∷ text name
item_text (session s) = 2 ∷ session_text s

-- an octet 0 is the end
abbrev pub end_text : List ℕ
end_text = 0 ∷ []

-- ## File of ledgers
-- The octets of ledgers: whose file it is and in which form, in 15 octets of text; each realm by its name, and behind
-- it its open sessions, the oldest first, each by the name of its peer, the names of its access server and its
-- Acct-Session-Id; an octet 0 as the end. A text stands behind an octet that says how long it is. What is read is
-- what was written, and no other octets are read: so of a file that was cut nothing is taken, wherever it was cut.
-- Source: ours
-- Rules out: half of a ledger taken for a whole one; a session under the number of another peer, in a server whose
-- peers stand in another order
-- Stands in: `roam_sessions` `Ledgers.antt`: `ledgers_text`; `Reading.antt`: `reading`; `LedgerLaws.antt`; `write`,
-- `read`, the laws `written_is_read`, `read_was_written`, `cut_is_refused`
--
-- the octets of all items
abbrev pub ledgers_text : List SavedItem → List ℕ
ledgers_text items = head ++ flat_map item_text items ++ end_text

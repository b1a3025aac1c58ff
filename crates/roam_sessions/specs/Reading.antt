-- Reading octets as ledgers, from left to right, with the first fault that is met. Ours.
use Rattle.std.specs.Prelude.{◌≡◌, ℕ, zero, suc, ◌==◌, List, [], ◌∷◌, ◌++◌, length, take, drop, Bool, true, false, not, Option, Some, None, Result, Ok, Err, nat_lt, if◌then◌else◌}
use Rattle.std.specs.Str.{bytes_eq}
use Rattle.roam_sessions.specs.Ledgers.{SavedItem, SavedSession, family, realm, session, version}
use Rattle.roam_sessions.specs.declared.fault.LedgerFault.{LedgerFault}
use Rattle.roam_sessions.specs.declared.fault.LedgerFault.TheVariants.{Foreign, Version, Cut, Malformed, Trailing}
use Rattle.roam_sessions.specs.declared.fault.ReadError.{ReadError}
use Rattle.roam_sessions.specs.declared.fault.ReadError.TheVariants as errors

infixl 10 ◌>>=◌
abbrev pub ◌>>=◌ : {A B : Type 0} → Result A LedgerFault → (A → Result B LedgerFault) → Result B LedgerFault
(Ok x) >>= f = f x
(Err e) >>= f = Err e

-- what a function answers, seen by a view, is what reading gives, unless memory was refused
abbrev pub Fails : {Y : Type 0} → ReadError → Result Y LedgerFault → Type 0
Fails errors.Memory read = Unit {0}
Fails (errors.Fault f) read = read ≡ Err f

abbrev pub Gives : {X Y : Type 0} → (X → Y) → Result X ReadError → Result Y LedgerFault → Type 0
Gives view (Ok x) read = read ≡ Ok (view x)
Gives view (Err e) read = Fails e read

-- what stands behind the head
unfoldable pub head_at : List ℕ → Result (List ℕ) LedgerFault
head_at octets =
    if nat_lt (length octets) 15 then Err Foreign
    else if not (bytes_eq (take 13 octets) family) then Err Foreign
    else if not (bytes_eq (take 2 (drop 13 octets)) version) then Err Version
    else Ok (drop 2 (drop 13 octets))

-- a field is a value, and the octets after it
unfoldable pub text_at : List ℕ → Result (List ℕ × List ℕ) LedgerFault
text_at [] = Err Cut
text_at (size ∷ rest) = if nat_lt (length rest) size then Err Cut else Ok (take size rest, drop size rest)

unfoldable pub optional_at : List ℕ → Result (Option (List ℕ) × List ℕ) LedgerFault
optional_at [] = Err Cut
optional_at (zero ∷ rest) = Ok (None, rest)
optional_at (suc zero ∷ rest) = do
  octets ← text_at rest
  Ok (Some octets.0, octets.1)
optional_at (suc (suc b) ∷ rest) = Err Malformed

unfoldable pub flag_at : List ℕ → Result (Bool × List ℕ) LedgerFault
flag_at [] = Err Cut
flag_at (zero ∷ rest) = Ok (false, rest)
flag_at (suc zero ∷ rest) = Ok (true, rest)
flag_at (suc (suc b) ∷ rest) = Err Malformed

unfoldable pub realm_at : List ℕ → Result (SavedItem × List ℕ) LedgerFault
realm_at octets = do
  own ← flag_at octets
  name ← text_at own.1
  Ok (realm name.0 own.0, name.1)

unfoldable pub session_at : List ℕ → Result (SavedSession × List ℕ) LedgerFault
session_at octets = do
  peer ← text_at octets
  address ← optional_at peer.1
  identifier ← optional_at address.1
  ipv6 ← optional_at identifier.1
  id ← text_at ipv6.1
  Ok (record { peer = peer.0; address = address.0; identifier = identifier.0; ipv6 = ipv6.0; id = id.0 }, id.1)

-- an item, or the end
unfoldable pub item_at : List ℕ → Result (Option SavedItem × List ℕ) LedgerFault
item_at [] = Err Cut
item_at (zero ∷ rest) = Ok (None, rest)
item_at (suc zero ∷ rest) = do
  item ← realm_at rest
  Ok (Some item.0, item.1)
item_at (suc (suc zero) ∷ rest) = do
  item ← session_at rest
  Ok (Some (session item.0), item.1)
item_at (suc (suc (suc b)) ∷ rest) = Err Malformed

-- nothing may stand behind the end
abbrev pub ended : List ℕ → Result (List SavedItem) LedgerFault
ended rest = if length rest == 0 then Ok [] else Err Trailing

-- what was read before, and what is still read
abbrev pub with_front : List SavedItem → Result (List SavedItem) LedgerFault → Result (List SavedItem) LedgerFault
with_front front read = read >>= λ more. Ok (front ++ more)

-- an item before those that are read from what stands behind it
abbrev pub with_item :
    Option SavedItem → List ℕ → (List ℕ → Result (List SavedItem) LedgerFault) → Result (List SavedItem) LedgerFault
with_item None rest others = ended rest
with_item (Some item) rest others = others rest >>= λ more. Ok (item ∷ more)

-- items up to the end, fewer than so many
unfoldable pub items_within : ℕ → List ℕ → Result (List SavedItem) LedgerFault
items_within zero octets = Err Cut
items_within (suc n) octets = do
  first ← item_at octets
  with_item first.0 first.1 (λ rest. items_within n rest)

-- all of the octets
unfoldable pub reading : List ℕ → Result (List SavedItem) LedgerFault
reading octets = do
  rest ← head_at octets
  items_within (length rest) rest

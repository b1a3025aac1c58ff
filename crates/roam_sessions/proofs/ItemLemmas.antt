-- What was written is read, what is read was so written, and of what was cut nothing is read.
use Rattle.std.proofs.Common.{◌≡◌, ◌≢◌, ℕ, zero, suc, ◌≤◌, ◌<◌, Bool, true, false, cond, eqb, List, [], ◌∷◌, ◌++◌, length, Option, Some, None, Result, Ok, Err, refl, sym, ap, subst, ◌∙◌, append_assoc, arith}
use Rattle.std.specs.List.{flat_map}
use Rattle.std.proofs.lemmas.Bool.{eqb-true, ne_eqb}
use Rattle.std.proofs.lemmas.List.{length-append, nil_from_length}
use Rattle.std.proofs.lemmas.List.Concat.{flat_map-cons}
use Rattle.roam_sessions.specs.declared.fault.LedgerFault.{LedgerFault}
use Rattle.roam_sessions.specs.declared.fault.LedgerFault.TheVariants.{Trailing}
use Rattle.roam_sessions.specs.Ledgers.{SavedItem, end_text, head, item_text, ledgers_text, realm, session}
use Rattle.roam_sessions.specs.Reading.{◌>>=◌, head_at, item_at, items_within, reading, realm_at, session_at, with_item}
use Rattle.roam_sessions.specs.LedgerLaws.{CutIsRefused, ReadWasWritten, WrittenIsRead}
use Rattle.roam_sessions.proofs.FieldLemmas.{bind_ok, head_again, head_takes, ok_is, realm_again, realm_takes, session_again, session_takes}

-- what an item, or the end, is written as
abbrev pub piece : Option SavedItem → List ℕ
piece None = end_text
piece (Some item) = item_text item

pub item_takes :
    (octets : List ℕ) (x : Option SavedItem × List ℕ) → item_at octets ≡ Ok x → octets ≡ piece x.0 ++ x.1
unfolding item_at
item_takes [] x e = absurd cc
item_takes (zero ∷ more) x e =
    subst (λ (y : Option SavedItem × List ℕ). 0 ∷ more ≡ piece y.0 ++ y.1) (ok_is (None, more) x e) refl
item_takes (suc zero ∷ more) x e =
    let a = bind_ok (realm_at more) (λ item. Ok (Some item.0, item.1)) x e in
    subst (λ (y : Option SavedItem × List ℕ). 1 ∷ more ≡ piece y.0 ++ y.1) (ok_is (Some a.0.0, a.0.1) x a.2)
    (realm_takes more a.0.0 a.0.1 a.1)
item_takes (suc (suc zero) ∷ more) x e =
    let a = bind_ok (session_at more) (λ item. Ok (Some (session item.0), item.1)) x e in
    subst (λ (y : Option SavedItem × List ℕ). 2 ∷ more ≡ piece y.0 ++ y.1)
    (ok_is (Some (session a.0.0), a.0.1) x a.2)
    (ap (λ (w : List ℕ). 2 ∷ w) (session_takes more a.0.0 a.0.1 a.1))
item_takes (suc (suc (suc b)) ∷ more) x e = absurd cc

pub item_again : (item : SavedItem) (rest : List ℕ) → item_at (item_text item ++ rest) ≡ Ok (Some item, rest)
unfolding item_at
item_again (realm name own) rest = rw (realm_again name own rest) refl
item_again (session s) rest = rw (session_again s rest) refl

pub end_again : (rest : List ℕ) → item_at (0 ∷ rest) ≡ Ok (None, rest)
unfolding item_at
end_again rest = refl

-- ---- items up to the end

guard_ended :
    {A : Type 0} (b : Bool) (x y : A) → cond b (Ok x) (Err Trailing) ≡ Ok y → (b ≡ true) × (x ≡ y)
guard_ended true x y e = (refl, cc)
guard_ended false x y e = absurd cc

then_take :
    (n : ℕ) (x : Option SavedItem) (rest : List ℕ) (items : List SavedItem)
    → ((more : List SavedItem) → items_within n rest ≡ Ok more → rest ≡ flat_map item_text more ++ end_text)
    → with_item x rest (λ r. items_within n r) ≡ Ok items
    → piece x ++ rest ≡ flat_map item_text items ++ end_text
then_take n None rest items later e =
    let g = guard_ended (eqb (length rest) 0) [] items e in
    let nothing : rest ≡ [] = nil_from_length rest (eqb-true _ _ g.0) in
    subst (λ (v : List SavedItem). 0 ∷ rest ≡ flat_map item_text v ++ end_text) g.1
    (ap (λ (r : List ℕ). 0 ∷ r) nothing)
then_take n (Some item) rest items later e =
    let b = bind_ok (items_within n rest) (λ more. Ok (item ∷ more)) items e in
    let whole : item_text item ++ rest ≡ flat_map item_text (item ∷ b.0) ++ end_text =
    ap (λ (w : List ℕ). item_text item ++ w) (later b.0 b.1)
    ∙ sym (append_assoc (item_text item) (flat_map item_text b.0) end_text)
    ∙ ap (λ (w : List ℕ). w ++ end_text) (sym (flat_map-cons item_text item b.0)) in
    subst (λ (v : List SavedItem). item_text item ++ rest ≡ flat_map item_text v ++ end_text)
    (ok_is (item ∷ b.0) items b.2) whole

pub items_take :
    (n : ℕ) (octets : List ℕ) (items : List SavedItem) → items_within n octets ≡ Ok items
    → octets ≡ flat_map item_text items ++ end_text
unfolding items_within
items_take zero octets items e = absurd cc
items_take (suc n) octets items e =
    let a = bind_ok (item_at octets) (λ first. with_item first.0 first.1 (λ rest. items_within n rest)) items e in
    item_takes octets a.0 a.1
    ∙ then_take n a.0.0 a.0.1 items (λ more h. items_take n a.0.1 more h) a.2

-- what is read of items with these octets behind their end
abbrev pub whole : List SavedItem → List ℕ → Result (List SavedItem) LedgerFault
whole items rest = cond (eqb (length rest) 0) (Ok items) (Err Trailing)

one_more :
    (b : Bool) (item : SavedItem) (items : List SavedItem)
    → (cond b (Ok items) (Err Trailing) >>= λ more. Ok (item ∷ more)) ≡ cond b (Ok (item ∷ items)) (Err Trailing)
one_more true item items = refl
one_more false item items = refl

pub items_again :
    (n : ℕ) (items : List SavedItem) (rest : List ℕ) → length items < n
    → items_within n (flat_map item_text items ++ 0 ∷ rest) ≡ whole items rest
unfolding items_within
items_again zero items rest lt = absurd (omega (arith, lt))
items_again (suc n) [] rest lt = rw (end_again rest) refl
items_again (suc n) (item ∷ items) rest lt =
    let regrouped :
    flat_map item_text (item ∷ items) ++ 0 ∷ rest ≡ item_text item ++ (flat_map item_text items ++ 0 ∷ rest) =
    ap (λ (x : List ℕ). x ++ 0 ∷ rest) (flat_map-cons item_text item items)
    ∙ append_assoc (item_text item) (flat_map item_text items) (0 ∷ rest) in
    ap (items_within (suc n)) regrouped
    ∙ rw (
      item_again item (flat_map item_text items ++ 0 ∷ rest),
      items_again n items rest (omega (arith, lt)),
    ) (one_more (eqb (length rest) 0) item items)

-- each item has an octet at least
one_octet : (item : SavedItem) → 1 ≤ length (item_text item)
one_octet (realm name own) = omega arith
one_octet (session s) = omega arith

few_items : (items : List SavedItem) → length items ≤ length (flat_map item_text items)
few_items [] = omega arith
few_items (item ∷ items) =
    rw (flat_map-cons item_text item items)
    (omega (arith, length-append (item_text item) (flat_map item_text items), one_octet item, few_items items))

pub reading_again :
    (items : List SavedItem) (rest : List ℕ)
    → reading (head ++ (flat_map item_text items ++ 0 ∷ rest)) ≡ whole items rest
unfolding reading
reading_again items rest =
    let body = flat_map item_text items ++ 0 ∷ rest in
    let enough : length items < length body =
    omega (arith, few_items items, length-append (flat_map item_text items) (0 ∷ rest)) in
    rw (head_again body) (items_again (length body) items rest enough)

-- ---- the laws

pub written_is_read : WrittenIsRead
written_is_read items = reading_again items []

pub read_was_written : ReadWasWritten
unfolding reading
read_was_written octets items e =
    let a = bind_ok (head_at octets) (λ rest. items_within (length rest) rest) items e in
    head_takes octets a.0 a.1 ∙ ap (λ (w : List ℕ). head ++ w) (items_take (length a.0) a.0 items a.2)

more_is_trailing : (items : List SavedItem) (rest : List ℕ) → rest ≢ [] → whole items rest ≡ Err Trailing
more_is_trailing items [] h = absurd (h refl)
more_is_trailing items (b ∷ bs) h = rw (ne_eqb (length (b ∷ bs)) 0 (λ e. absurd (omega (arith, e)))) refl

-- the octets of some items with more behind them aren't those of others
goes_no_further :
    (xs items : List SavedItem) (rest : List ℕ) → ledgers_text xs ++ rest ≡ ledgers_text items → rest ≢ [] → ⊥
goes_no_further xs items rest same more =
    let behind : (flat_map item_text xs ++ end_text) ++ rest ≡ flat_map item_text xs ++ 0 ∷ rest =
    append_assoc (flat_map item_text xs) end_text rest in
    let regrouped : ledgers_text xs ++ rest ≡ head ++ (flat_map item_text xs ++ 0 ∷ rest) =
    append_assoc head (flat_map item_text xs ++ end_text) rest ∙ ap (λ (w : List ℕ). head ++ w) behind in
    let refused : reading (ledgers_text xs ++ rest) ≡ Err Trailing =
    ap reading regrouped ∙ reading_again xs rest ∙ more_is_trailing xs rest more in
    let taken : reading (ledgers_text xs ++ rest) ≡ Ok items = ap reading same ∙ written_is_read items in
    let both : Err Trailing ≡ Ok items = sym refused ∙ taken in
    absurd cc

cut_there :
    (items : List SavedItem) (front rest : List ℕ) → front ++ rest ≡ ledgers_text items → rest ≢ []
    → (r : Result (List SavedItem) LedgerFault) → reading front ≡ r
    → (fault : LedgerFault) × (reading front ≡ Err fault)
cut_there items front rest same more (Err fault) e = (fault, e)
cut_there items front rest same more (Ok xs) e =
    let spelt : front ≡ ledgers_text xs = read_was_written front xs e in
    absurd (goes_no_further xs items rest (ap (λ (w : List ℕ). w ++ rest) (sym spelt) ∙ same) more)

pub cut_is_refused : CutIsRefused
cut_is_refused items front rest same more = cut_there items front rest same more (reading front) refl

-- Reading items one after the other, as a loop does.
use Rattle.std.proofs.Common.{◌≡◌, ℕ, suc, ◌-◌, ◌+◌, ◌≤◌, ◌<◌, List, [], ◌∷◌, ◌++◌, Option, Some, None, Result, Ok, Err, refl, sym, ap, subst, ◌∙◌, append_assoc, arith}
use Rattle.std.specs.Global.{Vec}
use Rattle.std.specs.Prelude.{option_map}
use Rattle.std.proofs.lemmas.List.{map-append}
use Rattle.roam_sessions.specs.ShownLedgers.{shown_item, shown_items}
use Rattle.roam_sessions.specs.declared.item.Item.{Item}
use Rattle.roam_sessions.specs.declared.fault.LedgerFault.{LedgerFault}
use Rattle.roam_sessions.specs.declared.fault.LedgerFault.TheVariants.{Cut}
use Rattle.roam_sessions.specs.declared.fault.ReadError.{ReadError}
use Rattle.roam_sessions.specs.declared.fault.ReadError.TheVariants as errors
use Rattle.roam_sessions.specs.Ledgers.{SavedItem}
use Rattle.roam_sessions.specs.Reading.{◌>>=◌, Fails, Gives, ended, item_at, items_within, with_front}

regroup :
    (front : List SavedItem) (item : SavedItem) (read : Result (List SavedItem) LedgerFault)
    → with_front front (read >>= λ more. Ok (item ∷ more)) ≡ with_front (front ++ item ∷ []) read
regroup front item (Ok more) = ap (λ (items : List SavedItem). Ok items) (simp append_assoc)
regroup front item (Err fault) = refl

-- one item on
pub goes_on :
    (front : List SavedItem) (count i : ℕ) (octets : List ℕ) (item : SavedItem) (after : List ℕ)
    (total : Result (List SavedItem) LedgerFault) → i < count → item_at octets ≡ Ok (Some item, after)
    → with_front front (items_within (count - i) octets) ≡ total
    → with_front (front ++ item ∷ []) (items_within (count - (i + 1)) after) ≡ total
unfolding items_within
goes_on front count i octets item after total lt h so_far =
    let k : count - i ≡ suc (count - (i + 1)) = omega (arith, lt) in
    let one :
    with_front front (items_within (count - i) octets)
    ≡ with_front (front ++ item ∷ []) (items_within (count - (i + 1)) after) =
    rw (k, h) (regroup front item (items_within (count - (i + 1)) after)) in
    sym one ∙ so_far

-- the end
pub comes_to_end :
    (front : List SavedItem) (count i : ℕ) (octets after : List ℕ) (total : Result (List SavedItem) LedgerFault)
    → i < count → item_at octets ≡ Ok (None, after)
    → with_front front (items_within (count - i) octets) ≡ total → total ≡ with_front front (ended after)
unfolding items_within
comes_to_end front count i octets after total lt h so_far =
    let k : count - i ≡ suc (count - (i + 1)) = omega (arith, lt) in
    let one : with_front front (items_within (count - i) octets) ≡ with_front front (ended after) = rw (k, h) refl in
    sym so_far ∙ one

-- a fault, or no memory
pub fails :
    (e : ReadError) (front : List SavedItem) (count i : ℕ) (octets : List ℕ)
    (total : Result (List SavedItem) LedgerFault) → i < count → Fails e (item_at octets)
    → with_front front (items_within (count - i) octets) ≡ total → Fails e total
unfolding items_within
fails errors.Memory front count i octets total lt h so_far = tt
fails (errors.Fault f) front count i octets total lt h so_far =
    let k : count - i ≡ suc (count - (i + 1)) = omega (arith, lt) in
    let one : with_front front (items_within (count - i) octets) ≡ Err f = rw (k, h) refl in
    sym so_far ∙ one

-- no end in as many octets as there are
pub is_cut :
    (front : List SavedItem) (count i : ℕ) (octets : List ℕ) (total : Result (List SavedItem) LedgerFault)
    → count ≤ i → with_front front (items_within (count - i) octets) ≡ total → total ≡ Err Cut
unfolding items_within
is_cut front count i octets total le so_far =
    let k : count - i ≡ 0 = omega (arith, le) in
    let one : with_front front (items_within (count - i) octets) ≡ Err Cut = rw k refl in
    sym so_far ∙ one

-- what an item is that was read
pub seen_item :
    (octets : List ℕ) (o p : Option Item) (after : List ℕ) → item_at octets ≡ Ok (option_map shown_item o, after)
    → o ≡ p → item_at octets ≡ Ok (option_map shown_item p, after)
seen_item octets o p after h is =
    subst (λ (x : Option Item). item_at octets ≡ Ok (option_map shown_item x, after)) is h

-- the same of what the code's items are seen as
pub goes_on_seen :
    (items : List Item) (count i : ℕ) (octets : List ℕ) (item : Item) (after : List ℕ)
    (total : Result (List SavedItem) LedgerFault) → i < count → item_at octets ≡ Ok (Some (shown_item item), after)
    → with_front (shown_items items) (items_within (count - i) octets) ≡ total
    → with_front (shown_items (items ++ item ∷ [])) (items_within (count - (i + 1)) after) ≡ total
goes_on_seen items count i octets item after total lt h so_far =
    ap (λ (front : List SavedItem). with_front front (items_within (count - (i + 1)) after))
    (map-append shown_item items (item ∷ []))
    ∙ goes_on (shown_items items) count i octets (shown_item item) after total lt h so_far

pub ends_seen :
    (items : List Item) (count i : ℕ) (octets after : List ℕ) (total : Result (List SavedItem) LedgerFault)
    (r : Result (Vec Item) ReadError) → i < count → item_at octets ≡ Ok (None, after)
    → with_front (shown_items items) (items_within (count - i) octets) ≡ total
    → Gives (λ v. shown_items v.items) r (with_front (shown_items items) (ended after))
    → Gives (λ v. shown_items v.items) r total
ends_seen items count i octets after total r lt h so_far given =
    subst (λ (read : Result (List SavedItem) LedgerFault). Gives (λ v. shown_items v.items) r read)
    (sym (comes_to_end (shown_items items) count i octets after total lt h so_far)) given

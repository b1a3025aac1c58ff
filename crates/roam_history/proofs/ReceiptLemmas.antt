-- Receipts that are right, and the first one that isn't.
use Rattle.std.proofs.Common.{◌≡◌, ℕ, ◌+◌, ◌<◌, ◌≤◌, List, [], ◌∷◌, ◌++◌, length, length-append, take, Some, false, slice_get, sym, subst, ap, ◌∙◌, inl, inr, arith, refl}
use Rattle.std.proofs.lemmas.Bool.{cases_order}
use Rattle.std.proofs.lemmas.List.{take-take, get_or_push}
use Rattle.std.proofs.Math.ListN.{get_or-append}
use Rattle.std.proofs.lemmas.List.Elements.{All-push, All-take}
use Rattle.std.proofs.lemmas.List.Quantifiers.{all_pairs_push}
use Rattle.roam_shard.specs.Steps.{PlainStep}
use Rattle.roam_history.specs.Receipts.{PlainReceipt}
use Rattle.roam_history.specs.Audit.{Stands, are_of_one_call, AreRight, IsFirstWrong}
use Rattle.roam_history.specs.Findings.{IsRightAfter}
use Rattle.roam_history.proofs.ListLemmas.{AllPairs-take}

-- one receipt more that is right after the others
pub AreRight-push : (steps : List (List PlainStep)) (receipts : List PlainReceipt)
    (receipt : PlainReceipt)
    → AreRight steps receipts
    → IsRightAfter steps receipts receipt
    → AreRight steps (receipts ++ receipt ∷ [])
AreRight-push steps receipts receipt right after = record {
  stand = All-push (Stands steps) receipts receipt right.stand after.stands;
  apart =
      all_pairs_push (λ one other. are_of_one_call one other ≡ false) receipts receipt
      right.apart after.alone;
}

-- the last of receipts that are right is right after the others
pub IsRightAfter-last : (steps : List (List PlainStep)) (receipts : List PlainReceipt)
    (receipt : PlainReceipt)
    → AreRight steps (receipts ++ receipt ∷ [])
    → IsRightAfter steps receipts receipt
IsRightAfter-last steps receipts receipt right =
    let last : length receipts < length (receipts ++ receipt ∷ []) =
    simp length-append (omega arith) in
    record {
      stands =
          subst (Stands steps) (get_or_push receipts receipt receipt (length receipts) refl)
          (right.stand (length receipts) receipt last);
      alone = λ k d within.
          let pair = right.apart k (length receipts) d within last in
          let earlier = get_or-append receipts (receipt ∷ []) d k within in
          let itself = get_or_push receipts receipt d (length receipts) refl in
          rw (earlier, itself) at pair;
    }

-- receipts that are right stay right where the last ones are left out
pub AreRight-take : (steps : List (List PlainStep)) (n : ℕ) (receipts : List PlainReceipt)
    → AreRight steps receipts
    → AreRight steps (take n receipts)
AreRight-take steps n receipts right = record {
  stand = All-take (Stands steps) n receipts right.stand;
  apart =
      AllPairs-take (λ one other. are_of_one_call one other ≡ false) n receipts right.apart;
}

-- a receipt that is wrong isn't before another first one
pub none_before : (steps : List (List PlainStep)) (receipts : List PlainReceipt) (place later : ℕ)
    → place < later
    → AreRight steps (take later receipts)
    → AreRight steps (take (place + 1) receipts)
none_before steps receipts place later below right =
    let within : place + 1 ≤ later = omega arith in
    subst (AreRight steps) (take-take (place + 1) later receipts within)
    (AreRight-take steps (place + 1) (take later receipts) right)

-- there is one first receipt that isn't right
pub one_wrong : (steps : List (List PlainStep)) (receipts : List PlainReceipt)
    (receipt other : PlainReceipt)
    → IsFirstWrong steps receipts receipt
    → IsFirstWrong steps receipts other
    → receipt ≡ other
one_wrong steps receipts receipt other first also =
    elim (cases_order first.place also.place) [
      | inl same ↦
          let seen : Some receipt ≡ Some other =
          sym first.there ∙ ap (slice_get receipts) same ∙ also.there in
          cc
      | inr (inl below) ↦
          absurd (first.against
          (none_before steps receipts first.place also.place below also.before))
      | inr (inr above) ↦
          absurd (also.against
          (none_before steps receipts also.place first.place above first.before))
    ]

-- where receipts are right there is no first one that isn't
pub none_wrong : (steps : List (List PlainStep)) (receipts : List PlainReceipt)
    (receipt : PlainReceipt)
    → AreRight steps receipts
    → ¬ IsFirstWrong steps receipts receipt
none_wrong steps receipts receipt right first =
    first.against (AreRight-take steps (first.place + 1) receipts right)

-- What is added to a line, and then more.
use Rattle.std.proofs.Common.{◌≡◌, ◌∙◌, ℕ, List, ◌++◌, Result, Ok, Err, OnOk, ap, append_assoc}

pub then-more : {E : Type 0} (result : Result (Unit {0}) E) (old between new a b : List ℕ) → between ≡ old ++ a →
    OnOk result (new ≡ between ++ b) → OnOk result (new ≡ old ++ (a ++ b))
then-more (Ok done) old between new a b first next =
    next ∙ ap (λ (l : List ℕ). l ++ b) first ∙ append_assoc old a b
then-more (Err fault) old between new a b first next = tt

-- the same where nothing can fail
pub then-this : (old between new a b : List ℕ) → between ≡ old ++ a → new ≡ between ++ b → new ≡ old ++ (a ++ b)
then-this old between new a b first next =
    next ∙ ap (λ (l : List ℕ). l ++ b) first ∙ append_assoc old a b

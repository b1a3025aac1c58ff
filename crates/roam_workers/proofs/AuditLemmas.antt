-- What threads counted of a queue, one after the other.
use Rattle.std.proofs.Common.{◌≡◌, ◌∙◌, ℕ, ◌+◌, ◌≤◌, ◌<◌, List, [], ◌∷◌, ◌++◌, length, take, slice_index_or, refl, ap}
use Rattle.std.proofs.lemmas.List.{take_more}
use Rattle.roam_workers.specs.JobCounts.{both, counts_at, none, of_threads, with_threads}
use Rattle.roam_workers.specs.declared.job_counts.JobCounts.{JobCounts}

-- some, and then others
with-append :
    {X : Type 0} (counts_of : X → List JobCounts) (queue : ℕ) (so_far : JobCounts) (xs ys : List X)
    → with_threads counts_of queue so_far (xs ++ ys)
    ≡ with_threads counts_of queue (with_threads counts_of queue so_far xs) ys
with-append counts_of queue so_far [] ys = refl
with-append counts_of queue so_far (x ∷ xs) ys =
    with-append counts_of queue (both so_far (counts_at queue (counts_of x))) xs ys

-- one thread more
pub one-more :
    {X : Type 0} (counts_of : X → List JobCounts) (queue : ℕ) (threads : List X) (i : ℕ) (d : X) → i < length threads
    → of_threads counts_of queue (take (i + 1) threads)
    ≡ both (of_threads counts_of queue (take i threads)) (counts_at queue (counts_of (slice_index_or threads i d)))
one-more counts_of queue threads i d within =
    ap (of_threads counts_of queue) (take_more threads i d within)
    ∙ with-append counts_of queue none (take i threads) (slice_index_or threads i d ∷ [])

-- of the queues from the last on
abbrev pub AreTakenFrom : {X : Type 0} → (X → List JobCounts) → ℕ → ℕ → List X → Type 0
AreTakenFrom counts_of first queues threads =
    (queue : ℕ) → first ≤ queue → queue < queues
    → (of_threads counts_of queue threads).handed_on ≡ (of_threads counts_of queue threads).taken_over

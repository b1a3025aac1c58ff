-- Sums of octets, as far as 64 bits hold them.
use Rattle.std.proofs.Common.{◌≡◌, ℕ, ◌+◌, List, [], ◌∷◌, ◌++◌, min, ap, sym, ◌∙◌, arith}
use Rattle.std.proofs.lemmas.List.Sums.{sum_by_push}
use Rattle.roam_core.specs.Events.{PlainEvent}
use Rattle.roam_shard.specs.Steps.{octets_came, octets_in}

-- what was cut off is cut off again
pub capped : (a b m : ℕ) → min (min a m + b) m ≡ min (a + b) m
capped a b m = omega arith

-- one event more
pub octets_more : (events : List PlainEvent) (e : PlainEvent) (octets m : ℕ) → octets ≡ min (octets_in events) m
    → min (octets + octets_came e) m ≡ min (octets_in (events ++ e ∷ [])) m
octets_more events e octets m is =
    ap (λ (n : ℕ). min (n + octets_came e) m) is
    ∙ (capped (octets_in events) (octets_came e) m
    ∙ ap (λ (n : ℕ). min n m) (sym (sum_by_push octets_came events e)))

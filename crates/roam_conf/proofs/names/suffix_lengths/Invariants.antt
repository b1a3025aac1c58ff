use Rattle.std.proofs.Common.{◌≡◌, ℕ, ◌≤◌, false, List, ◌∷◌, length, drop}
use Rattle.roam_conf.specs.Index.{is_marked}
use Rattle.roam_conf.proofs.SuffixLemmas.{is_among}
use Rattle.roam_conf.proofs.names.suffix_lengths.Given as goal

-- a suffix whose length isn't marked is none of the keys that were looked at
abbrev pub invariant-loop-key : goal.invariant-loop-key
invariant-loop-key l =
    (name : List ℕ) → length name ≤ 253 → is_marked l.marks (length name) ≡ false →
    is_among (46 ∷ name) (drop l.key-index l.key-items) ≡ is_among (46 ∷ name) l.key-items

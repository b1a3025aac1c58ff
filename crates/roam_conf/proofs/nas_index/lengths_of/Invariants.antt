use Rattle.std.proofs.Common.{◌≡◌, ℕ, ◌≤◌, false, List, length, drop}
use Rattle.roam_conf.specs.Index.{is_marked}
use Rattle.roam_conf.proofs.SuffixLemmas.{is_among}
use Rattle.roam_conf.proofs.nas_index.lengths_of.Given as goal

-- a front whose length isn't marked is none of the keys that were looked at
abbrev pub invariant-loop-key : goal.invariant-loop-key
invariant-loop-key l =
    (front : List ℕ) → length front ≤ 253 → is_marked l.marks (length front) ≡ false →
    is_among front (drop l.key-index l.key-items) ≡ is_among front l.key-items

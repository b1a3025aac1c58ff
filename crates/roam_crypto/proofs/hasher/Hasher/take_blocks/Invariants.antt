use Rattle.std.proofs.Common.{◌≡◌, ◌≤◌, ℕ, List, ◌++◌, ◌*◌, ◌%◌, length, take}
use Rattle.md5.specs.Md5.{IsAbsorbed}
use Rattle.roam_crypto.specs.Hasher.{HasTaken}
use Rattle.roam_crypto.proofs.hasher.Hasher.take_blocks.Given as goal

-- so many blocks are taken in, and nothing else changed
abbrev pub invariant-loop-i : goal.invariant-loop-i
invariant-loop-i l =
    (l.self.buffer ≡ l.fn.self.buffer) × (l.self.total ≡ l.fn.self.total) × (64 * l.i ≤ length l.octets)
    × ((m : List ℕ) → length m % 64 ≡ 0 → HasTaken l.fn.self.state l.fn.self.buffer m
    → IsAbsorbed l.self.state l.self.buffer (m ++ take (64 * l.i) l.octets))

use Rattle.std.proofs.Common.{◌≡◌, ◌*◌, length, take}
use Rattle.md5.specs.Md5.{digest_bytes}
use Rattle.roam_crypto.proofs.hasher.digest_octets.Given as goal

abbrev pub invariant-loop-i : goal.invariant-loop-i
invariant-loop-i l = (length l.digest ≡ 16) × (take (4 * l.i) l.digest ≡ digest_bytes l.state l.i)

use Rattle.std.proofs.Common.{◌≡◌, ◌↔◌, take}
use Rattle.roam_crypto.proofs.comparing.is_same_digest.Given as goal

-- no difference so far just where the octets so far are the same
abbrev pub invariant-loop-at : goal.invariant-loop-at
invariant-loop-at l = (l.difference ≡ 0) ↔ (take l.at l.one ≡ take l.at l.other)

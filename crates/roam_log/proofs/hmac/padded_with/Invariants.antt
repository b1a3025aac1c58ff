use Rattle.std.proofs.Common.{◌≡◌, ◌++◌, map, take, drop}
use Rattle.std.specs.Prelude.{bit_xor}
use Rattle.roam_log.proofs.hmac.padded_with.Given as goal

-- the octets so far are XORed, and the others are as they were
abbrev pub invariant-loop-octet : goal.invariant-loop-octet
invariant-loop-octet l =
    l.octet-items ≡ map (λ octet. bit_xor octet l.pad) (take l.octet-index l.initial.octet-items)
    ++ drop l.octet-index l.initial.octet-items

use Rattle.std.proofs.Common.{◌≡◌, ◌++◌, take}
use Rattle.roam_log.specs.Values.{quoted_octets}
use Rattle.roam_log.proofs.exchange_line.push_each.Given as goal

-- the octets so far
abbrev pub invariant-loop-octet : goal.invariant-loop-octet
invariant-loop-octet l = l.line.items ≡ l.initial.line.items ++ quoted_octets (take l.octet-index l.value)

use Rattle.std.proofs.Common.{◌≡◌, ◌++◌, take}
use Rattle.roam_metrics.specs.Lines.{escaped}
use Rattle.roam_metrics.proofs.samples.push_escaped.Given as goal

-- the octets so far
abbrev pub invariant-loop-octet : goal.invariant-loop-octet
invariant-loop-octet l = l.page.items ≡ l.initial.page.items ++ escaped (take l.octet-index l.value)

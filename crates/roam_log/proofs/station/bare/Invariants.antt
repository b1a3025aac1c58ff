use Rattle.std.proofs.Common.{◌≡◌, take}
use Rattle.roam_log.specs.Hashes.{bare}
use Rattle.roam_log.proofs.station.bare.Given as goal

-- the octets so far
abbrev pub invariant-loop-octet : goal.invariant-loop-octet
invariant-loop-octet l = l.octets.items ≡ bare (take l.octet-index l.station)

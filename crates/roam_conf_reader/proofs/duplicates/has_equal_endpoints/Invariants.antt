use Rattle.std.proofs.Common.{◌≡◌, drop}
use Rattle.roam_conf.specs.Duplicates.{has_pair, same_endpoint}
use Rattle.roam_conf_reader.proofs.duplicates.has_equal_endpoints.Given as goal

abbrev pub invariant-loop-i : goal.invariant-loop-i
invariant-loop-i l =
    has_pair same_endpoint (drop l.i l.endpoints) ≡ has_pair same_endpoint l.fn.endpoints

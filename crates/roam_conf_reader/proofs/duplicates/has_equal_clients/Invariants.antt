use Rattle.std.proofs.Common.{◌≡◌, map, drop}
use Rattle.roam_conf.specs.Duplicates.{has_pair, same_client}
use Rattle.roam_conf.specs.Parts.{shown_client}
use Rattle.roam_conf_reader.proofs.duplicates.has_equal_clients.Given as goal

abbrev pub invariant-loop-i : goal.invariant-loop-i
invariant-loop-i l =
    has_pair same_client (map shown_client (drop l.i l.clients))
    ≡ has_pair same_client (map shown_client l.fn.clients)

use Rattle.std.proofs.Common.{◌≡◌, map, drop}
use Rattle.std.specs.List.{list_any}
use Rattle.roam_conf.specs.Duplicates.{same_client}
use Rattle.roam_conf.specs.Parts.{shown_client}
use Rattle.roam_conf_reader.proofs.duplicates.is_among_clients.Given as goal

abbrev pub invariant-loop-other : goal.invariant-loop-other
invariant-loop-other l =
    list_any (same_client (shown_client l.client)) (map shown_client (drop l.other-index l.others))
    ≡ list_any (same_client (shown_client l.fn.client)) (map shown_client l.fn.others)

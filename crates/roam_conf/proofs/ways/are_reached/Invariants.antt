use Rattle.std.proofs.Common.{◌≡◌, map, drop}
use Rattle.std.specs.List.{list_all}
use Rattle.roam_conf.specs.Parts.{shown_server}
use Rattle.roam_conf.specs.Ways.{is_reached}
use Rattle.roam_conf.proofs.ways.are_reached.Given as goal

abbrev pub invariant-loop-server : goal.invariant-loop-server
invariant-loop-server l =
    list_all (is_reached l.outs) (map shown_server (drop l.server-index l.servers))
    ≡ list_all (is_reached l.fn.outs) (map shown_server l.fn.servers)

use Rattle.std.proofs.Common.{◌≡◌, map, drop}
use Rattle.roam_conf.specs.Duplicates.{some_server_at}
use Rattle.roam_conf.specs.Parts.{shown_server}
use Rattle.roam_conf_reader.proofs.duplicates.some_server_at.Given as goal

abbrev pub invariant-loop-server : goal.invariant-loop-server
invariant-loop-server l =
    some_server_at l.endpoints.keys (map shown_server (drop l.server-index l.servers))
    ≡ some_server_at l.fn.endpoints.keys (map shown_server l.fn.servers)

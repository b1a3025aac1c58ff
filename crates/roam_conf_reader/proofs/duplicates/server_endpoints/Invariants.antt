use Rattle.std.proofs.Common.{◌≡◌, ◌++◌, map, drop}
use Rattle.roam_conf.specs.Duplicates.{server_endpoints}
use Rattle.roam_conf.specs.Parts.{shown_server}
use Rattle.roam_conf_reader.proofs.duplicates.server_endpoints.Given as goal

abbrev pub invariant-loop-server : goal.invariant-loop-server
invariant-loop-server l =
    l.endpoints.items ++ server_endpoints (map shown_server (drop l.server-index l.servers))
    ≡ server_endpoints (map shown_server l.fn.servers)

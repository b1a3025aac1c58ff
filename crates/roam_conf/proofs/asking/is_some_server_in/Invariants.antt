use Rattle.std.proofs.Common.{◌≡◌, map, drop}
use Rattle.std.specs.List.{list_any}
use Rattle.roam_address.specs.Prefixes.{shown_prefix}
use Rattle.roam_conf.specs.Asking.{is_server_in}
use Rattle.roam_conf.specs.Parts.{shown_server}
use Rattle.roam_conf.proofs.asking.is_some_server_in.Given as goal

abbrev pub invariant-loop-server : goal.invariant-loop-server
invariant-loop-server l =
    list_any (is_server_in (shown_prefix l.prefix)) (map shown_server (drop l.server-index l.servers))
    ≡ list_any (is_server_in (shown_prefix l.fn.prefix)) (map shown_server l.fn.servers)

use Rattle.std.proofs.Common.{◌≡◌, map, drop}
use Rattle.roam_conf.specs.Parts.{shown_server}
use Rattle.roam_conf_reader.specs.Document.{some_auth}
use Rattle.roam_conf_reader.proofs.realm.some_auth.Given as goal

abbrev pub invariant-loop-server : goal.invariant-loop-server
invariant-loop-server l =
    some_auth (map shown_server (drop l.server-index l.servers)) ≡ some_auth (map shown_server l.fn.servers)

use Rattle.std.proofs.Common.{◌≡◌, drop, map}
use Rattle.roam_conf.specs.Parts.{shown_server}
use Rattle.roam_reload.specs.Kept.{same_servers}
use Rattle.roam_reload.proofs.kept.has_same_servers.Given as goal

abbrev pub invariant-loop-place : goal.invariant-loop-place
invariant-loop-place l =
    same_servers (map shown_server (drop l.place l.old.servers.items))
    (map shown_server (drop l.place l.new.servers.items))
    ≡ same_servers (map shown_server l.fn.old.servers.items) (map shown_server l.fn.new.servers.items)

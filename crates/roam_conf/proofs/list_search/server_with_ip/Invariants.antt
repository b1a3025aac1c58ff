use Rattle.std.proofs.Common.{◌≡◌, ◌||◌, map, drop}
use Rattle.std.specs.List.{position_from}
use Rattle.roam_conf.specs.Config.{ServerView}
use Rattle.roam_conf.specs.Lookup.{first_place, has_ip}
use Rattle.roam_conf.specs.Parts.{shown_server}
use Rattle.roam_conf.proofs.list_search.server_with_ip.Given as goal

abbrev pub invariant-loop-place : goal.invariant-loop-place
invariant-loop-place l =
    position_from (λ (x : ServerView). has_ip l.ip x.auth || has_ip l.ip x.acct) l.place
    (map shown_server (drop l.place l.servers))
    ≡ first_place (λ (x : ServerView). has_ip l.fn.ip x.auth || has_ip l.fn.ip x.acct) (map shown_server l.fn.servers)

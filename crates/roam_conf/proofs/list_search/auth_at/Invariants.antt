use Rattle.std.proofs.Common.{◌≡◌, map, drop}
use Rattle.std.specs.List.{position_from}
use Rattle.roam_conf.specs.Config.{ServerView}
use Rattle.roam_conf.specs.Lookup.{first_place, is_there}
use Rattle.roam_conf.specs.Parts.{shown_server}
use Rattle.roam_conf.proofs.list_search.auth_at.Given as goal

abbrev pub invariant-loop-i : goal.invariant-loop-i
invariant-loop-i l =
    position_from (λ (x : ServerView). is_there l.endpoint x.auth) l.i (map shown_server (drop l.i l.servers))
    ≡ first_place (λ (x : ServerView). is_there l.fn.endpoint x.auth) (map shown_server l.fn.servers)

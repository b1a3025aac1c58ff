use Rattle.std.proofs.Common.{◌≡◌, map, drop}
use Rattle.std.specs.List.{position_from}
use Rattle.roam_address.specs.Same.{same_address}
use Rattle.roam_conf.specs.Config.{CoaClientView}
use Rattle.roam_conf.specs.Lookup.{first_place}
use Rattle.roam_conf.specs.Parts.{shown_client}
use Rattle.roam_conf.proofs.list_search.client_with_ip.Given as goal

abbrev pub invariant-loop-i : goal.invariant-loop-i
invariant-loop-i l =
    position_from (λ (x : CoaClientView). same_address x.ip l.ip) l.i (map shown_client (drop l.i l.clients))
    ≡ first_place (λ (x : CoaClientView). same_address x.ip l.fn.ip) (map shown_client l.fn.clients)

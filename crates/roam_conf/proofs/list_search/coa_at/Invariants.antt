use Rattle.std.proofs.Common.{◌≡◌, map, drop}
use Rattle.std.specs.List.{position_from}
use Rattle.roam_conf.specs.Config.{PeerView}
use Rattle.roam_conf.specs.Lookup.{first_place, is_coa}
use Rattle.roam_conf.specs.Parts.{shown_peer}
use Rattle.roam_conf.proofs.list_search.coa_at.Given as goal

abbrev pub invariant-loop-i : goal.invariant-loop-i
invariant-loop-i l =
    position_from (λ (x : PeerView). is_coa l.endpoint x) l.i (map shown_peer (drop l.i l.peers))
    ≡ first_place (λ (x : PeerView). is_coa l.fn.endpoint x) (map shown_peer l.fn.peers)

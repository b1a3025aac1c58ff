use Rattle.std.proofs.Common.{◌≡◌, drop}
use Rattle.std.specs.List.{position_from}
use Rattle.roam_conf.specs.Lookup.{first_place}
use Rattle.roam_conf.specs.Parts.{shown_peer}
use Rattle.roam_reload.specs.Laying.{peers_in, slot_holds}
use Rattle.roam_reload.specs.Numbers.{same_peer_name}
use Rattle.roam_reload.proofs.laying_peers.slot_with.Given as goal

abbrev pub invariant-loop-i : goal.invariant-loop-i
invariant-loop-i l =
    position_from (slot_holds (same_peer_name (shown_peer l.peer))) l.i (peers_in (drop l.i l.slots))
    ≡ first_place (slot_holds (same_peer_name (shown_peer l.fn.peer))) (peers_in l.fn.slots)

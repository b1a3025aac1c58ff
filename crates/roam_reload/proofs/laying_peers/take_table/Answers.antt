use Rattle.std.proofs.Common.{◌≡◌, ◌<◌, Some, None, option_map, length, ap, sym, ◌∙◌, arith}
use Rattle.std.specs.List.{position_from}
use Rattle.roam_conf.specs.Parts.{shown_peer}
use Rattle.roam_reload.specs.Laying.{peers_in, slot_holds}
use Rattle.roam_reload.specs.Numbers.{same_peer_name}
use Rattle.roam_reload.proofs.SlotLemmas.{none_there, taken_found, taken_left}
use Rattle.roam_reload.proofs.laying_peers.take_table.Goals as goal

-- the slot that has it
pub returns-in-Some-clause-found : goal.returns-in-Some-clause-found
returns-in-Some-clause-found c =
    let slots = c.args.slots.now.items in
    let same = same_peer_name (shown_peer c.args.peer.now) in
    let place : position_from (slot_holds same) 0 (peers_in slots) ≡ Some c.in-Some.i =
    rw (← c.as_slice.ensures.value) (sym c.slot_with.ensures.value ∙ c.in-Some.is) in
    let inside : c.in-Some.i < length slots =
    omega (arith, c.in-Some.ensures.bound, ap length c.as_slice.ensures.value) in
    ap (option_map shown_peer) c.take.ensures.value
    ∙ taken_found shown_peer same slots c.in-Some.i inside place c.index_mut.result.now c.index_mut.ensures.value

pub returns-in-Some-clause-slots : goal.returns-in-Some-clause-slots
returns-in-Some-clause-slots c =
    let slots = c.args.slots.now.items in
    let same = same_peer_name (shown_peer c.args.peer.now) in
    let place : position_from (slot_holds same) 0 (peers_in slots) ≡ Some c.in-Some.i =
    rw (← c.as_slice.ensures.value) (sym c.slot_with.ensures.value ∙ c.in-Some.is) in
    let inside : c.in-Some.i < length slots =
    omega (arith, c.in-Some.ensures.bound, ap length c.as_slice.ensures.value) in
    taken_left shown_peer same slots c.in-Some.i inside place c.take.new.self c.take.ensures.after

-- no slot has it
pub returns-in-None-clause-found : goal.returns-in-None-clause-found
returns-in-None-clause-found c =
    let same = same_peer_name (shown_peer c.args.peer.now) in
    let none : position_from (slot_holds same) 0 (peers_in c.args.slots.now.items) ≡ None =
    rw (← c.as_slice.ensures.value) (sym c.slot_with.ensures.value ∙ c.in-None.is) in
    sym (none_there same (peers_in c.args.slots.now.items) 0 none).0

pub returns-in-None-clause-slots : goal.returns-in-None-clause-slots
returns-in-None-clause-slots c =
    let same = same_peer_name (shown_peer c.args.peer.now) in
    let none : position_from (slot_holds same) 0 (peers_in c.args.slots.now.items) ≡ None =
    rw (← c.as_slice.ensures.value) (sym c.slot_with.ensures.value ∙ c.in-None.is) in
    sym (none_there same (peers_in c.args.slots.now.items) 0 none).1

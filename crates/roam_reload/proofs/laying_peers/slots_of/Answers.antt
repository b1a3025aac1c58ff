use Rattle.std.proofs.Common.{◌≡◌, ◌++◌, [], ◌∷◌, Some, length, map, sym, ap, ◌∙◌, arith}
use Rattle.std.proofs.lemmas.Grind.{common_steps}
use Rattle.std.proofs.lemmas.List.{nil_from_length}
use Rattle.std.specs.Vec.Iter.{into_iter_items}
use Rattle.roam_conf.specs.Parts.{shown_peer}
use Rattle.roam_reload.specs.Laying.{all_in, peers_in}
use Rattle.roam_reload.proofs.SlotLemmas.{all_slots, one_slot}
use Rattle.roam_reload.proofs.laying_peers.slots_of.Goals as goal

pub loop-peer-init : goal.loop-peer-init
loop-peer-init c =
    let iter = c.into_iter-peer-iterator.ensures.into_iter_gives in
    let none : c.new-slots.result.items ≡ [] = c.new-slots.ensures.items in
    record {
      slots = ap (λ ss. peers_in ss ++ all_in (map shown_peer (into_iter_items c.into_iter-peer-iterator.result))) none
          ∙ ap (λ xs. all_in (map shown_peer xs)) iter.0;
      left = iter.1 ∙ c.args.peers.ok.0 ∙ ap length (sym iter.0);
    }

pub loop-peer-preserved : goal.loop-peer-preserved
loop-peer-preserved c =
    let steps = c.in-Some.ensures.steps in
    let short = ap length steps.0 in
    let more : c.push.new.self.items ≡ c.loop-peer.slots.items ++ Some c.in-Some.peer ∷ [] =
    grind (arith, common_steps) in
    record {
      slots = one_slot shown_peer c.loop-peer.slots.items c.push.new.self.items _ _ c.in-Some.peer _ steps.0 more
          c.loop-peer.invariant.slots;
      left = omega (arith, short, steps.1, c.loop-peer.invariant.left);
    }

pub returns : goal.returns
returns c =
    let none : length (into_iter_items c.loop-peer.peer-iterator) ≡ 0 = sym c.loop-peer.invariant.left
    ∙ c.in-None.ensures.steps.0 in
    all_slots shown_peer c.loop-peer.slots.items _ _ (nil_from_length _ none) c.loop-peer.invariant.slots

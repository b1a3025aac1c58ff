use Rattle.std.proofs.Common.{◌≡◌, ◌++◌, length, map, sym, ap, ◌∙◌, arith}
use Rattle.std.proofs.lemmas.List.{nil_from_length}
use Rattle.std.specs.Vec.Iter.{into_iter_items}
use Rattle.roam_conf.specs.Parts.{shown_peer}
use Rattle.roam_reload.specs.Laying.{left_in, peers_in}
use Rattle.roam_reload.proofs.SlotLemmas.{all_put, one_put}
use Rattle.roam_reload.proofs.laying_peers.put_tables.Goals as goal

pub loop-slot-init : goal.loop-slot-init
loop-slot-init c =
    let iter = c.into_iter-slot-iterator.ensures.into_iter_gives in
    record {
      laid = ap (λ ss. map shown_peer c.args.laid.now.items ++ left_in (peers_in ss)) iter.0;
      left = iter.1 ∙ c.args.slots.ok.0 ∙ ap length (sym iter.0);
    }

pub loop-slot-preserved : goal.loop-slot-preserved
loop-slot-preserved c =
    let steps = c.in-Some.ensures.steps in
    let short = ap length steps.0 in
    record {
      laid = one_put shown_peer (map shown_peer c.loop-slot.laid.items) _ _ _ c.in-Some.slot _ steps.0
          c.in_ok-put_table.ensures c.loop-slot.invariant.laid;
      left = omega (arith, short, steps.1, c.loop-slot.invariant.left);
    }

pub returns : goal.returns
returns c =
    let none : length (into_iter_items c.loop-slot.slot-iterator) ≡ 0 = sym c.loop-slot.invariant.left
    ∙ c.in-None.ensures.steps.0 in
    all_put shown_peer (map shown_peer c.loop-slot.laid.items) _ _ (nil_from_length _ none) c.loop-slot.invariant.laid

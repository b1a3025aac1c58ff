use Rattle.std.proofs.Common.{◌≡◌, ◌++◌, [], ◌∷◌, Some, length, map, sym, ap, ◌∙◌, arith}
use Rattle.std.proofs.lemmas.Grind.{common_steps}
use Rattle.std.proofs.lemmas.List.{nil_from_length}
use Rattle.std.specs.Vec.Iter.{into_iter_items}
use Rattle.roam_conf.specs.Parts.{shown_realm}
use Rattle.roam_reload.specs.Laying.{all_in, realms_in}
use Rattle.roam_reload.proofs.SlotLemmas.{all_slots, one_slot}
use Rattle.roam_reload.proofs.laying_realms.slots_of.Goals as goal

pub loop-realm-init : goal.loop-realm-init
loop-realm-init c =
    let iter = c.into_iter-realm-iterator.ensures.into_iter_gives in
    let none : c.new-slots.result.items ≡ [] = c.new-slots.ensures.items in
    record {
      slots = ap
          (λ ss. realms_in ss ++ all_in (map shown_realm (into_iter_items c.into_iter-realm-iterator.result))) none
          ∙ ap (λ xs. all_in (map shown_realm xs)) iter.0;
      left = iter.1 ∙ c.args.realms.ok.0 ∙ ap length (sym iter.0);
    }

pub loop-realm-preserved : goal.loop-realm-preserved
loop-realm-preserved c =
    let steps = c.in-Some.ensures.steps in
    let short = ap length steps.0 in
    let more : c.push.new.self.items ≡ c.loop-realm.slots.items ++ Some c.in-Some.realm ∷ [] =
    grind (arith, common_steps) in
    record {
      slots = one_slot shown_realm c.loop-realm.slots.items c.push.new.self.items _ _ c.in-Some.realm _ steps.0 more
          c.loop-realm.invariant.slots;
      left = omega (arith, short, steps.1, c.loop-realm.invariant.left);
    }

pub returns : goal.returns
returns c =
    let none : length (into_iter_items c.loop-realm.realm-iterator) ≡ 0 = sym c.loop-realm.invariant.left
    ∙ c.in-None.ensures.steps.0 in
    all_slots shown_realm c.loop-realm.slots.items _ _ (nil_from_length _ none) c.loop-realm.invariant.slots

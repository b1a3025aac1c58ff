use Rattle.std.proofs.Common.{◌||◌, ◌∙◌, ap, refl, sym, arith}
use Rattle.roam_conf.specs.Config.{RealmView}
use Rattle.roam_conf.specs.Parts.{shown_realm}
use Rattle.roam_reload.specs.Numbers.{same_realm_name}
use Rattle.roam_reload.proofs.NumberLemmas.{tells, tells_none}
use Rattle.roam_reload.proofs.numbers.keeps_realm.Goals as goal

-- it went
pub returns-then-after : goal.returns-then-after
returns-then-after c =
    let before = c.index-old-i.result in
    let after = c.in-Some.after.now in
    tells shown_realm same_realm_name (λ (x : RealmView). x.gone) c.args.old.now c.args.new.now c.args.i before after
    after.gone c.requires c.index-old-i.is (omega (arith, c.in-Some.ensures.lookup)) c.in-Some.ensures.lookup.1
    (c.if-after.true ∙ ap (λ b. b || same_realm_name (shown_realm before) (shown_realm after)) (sym c.if-after.true))

-- its name tells
pub returns-else-after : goal.returns-else-after
returns-else-after c =
    let before = c.index-old-i.result in
    let after = c.in-Some.after.now in
    tells shown_realm same_realm_name (λ (x : RealmView). x.gone) c.args.old.now c.args.new.now c.args.i before after _
    c.requires c.index-old-i.is (omega (arith, c.in-Some.ensures.lookup)) c.in-Some.ensures.lookup.1
    (c.is_same_realm.ensures
    ∙ ap (λ b. b || same_realm_name (shown_realm before) (shown_realm after)) (sym c.if-after.false))

-- there is none any more
pub returns-in-None : goal.returns-in-None
returns-in-None c =
    tells_none shown_realm same_realm_name (λ (x : RealmView). x.gone) c.args.old.now c.args.new.now c.args.i
    c.index-old-i.result _ c.requires c.index-old-i.is (omega (arith, c.in-None.ensures.lookup)) refl

use Rattle.std.proofs.Common.{refl}
use Rattle.std.proofs.lemmas.Bool.{false≢true}
use Rattle.roam_conf.specs.Config.{RealmView}
use Rattle.roam_conf.specs.Parts.{shown_realm}
use Rattle.roam_reload.specs.Numbers.{same_realm_name}
use Rattle.roam_reload.proofs.NumberLemmas.{all_kept, none_first, not_kept, one_more}
use Rattle.roam_reload.proofs.numbers.keeps_realms.Goals as goal

pub loop-i-init : goal.loop-i-init
loop-i-init c = none_first shown_realm same_realm_name (λ (x : RealmView). x.gone) c.args.old.now c.args.new.now

-- an index that isn't kept
pub returns-then-not-keeps_realm : goal.returns-then-not-keeps_realm
returns-then-not-keeps_realm c = (
  λ yes'. absurd (false≢true yes'),
  λ all. absurd (not_kept shown_realm same_realm_name (λ (x : RealmView). x.gone) c.args.old.now c.args.new.now
      c.loop-i.i c.keeps_realm.result c.keeps_realm.ensures c.if-not-keeps_realm.true all),
)

pub loop-i-preserved : goal.loop-i-preserved
loop-i-preserved c =
    one_more shown_realm same_realm_name (λ (x : RealmView). x.gone) c.args.old.now c.args.new.now c.loop-i.i
    c.keeps_realm.result c.loop-i.invariant c.keeps_realm.ensures c.if-not-keeps_realm.false

pub returns : goal.returns
returns c = (
  λ yes'. all_kept shown_realm same_realm_name (λ (x : RealmView). x.gone) c.args.old.now c.args.new.now c.loop-i.i
      c.loop-i-test.false c.loop-i.invariant,
  λ all. refl,
)

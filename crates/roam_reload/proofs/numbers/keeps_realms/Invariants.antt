use Rattle.roam_conf.specs.Config.{RealmView}
use Rattle.roam_conf.specs.Parts.{shown_realm}
use Rattle.roam_reload.specs.Numbers.{same_realm_name}
use Rattle.roam_reload.proofs.NumberLemmas.{KeepsFirst}
use Rattle.roam_reload.proofs.numbers.keeps_realms.Given as goal

abbrev pub invariant-loop-i : goal.invariant-loop-i
invariant-loop-i l =
    KeepsFirst shown_realm same_realm_name (λ (x : RealmView). x.gone) l.fn.old l.fn.new l.i

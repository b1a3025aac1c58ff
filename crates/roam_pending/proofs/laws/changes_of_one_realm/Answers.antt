use Rattle.std.proofs.Common.{◌∙◌}
use Rattle.roam_pending.proofs.laws.changes_of_one_realm.Goals as goal

pub returns : goal.returns
returns c = λ realm es fs old mid new first second. record {
  here = second.here;
  others = λ r ne. second.others r ne ∙ first.others r ne;
}

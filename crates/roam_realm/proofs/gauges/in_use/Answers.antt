use Rattle.std.proofs.Common.{arith, ◌∙◌, ℕ, Option, ap, sym}
use Rattle.std.specs.Prelude.{is_some}
use Rattle.roam_realm.proofs.LookingLemmas.{none-below, none-used, one-more}
use Rattle.roam_realm.proofs.gauges.in_use.Goals as goal

-- nothing is in use of a lane that isn't made
pub returns-then-is_unmade : goal.returns-then-is_unmade
returns-then-is_unmade g c =
    sym (none-used c.args.lane.now (c.is_unmade.ensures.unused c.if-is_unmade.true) 256)

pub loop-id-init : goal.loop-id-init
loop-id-init g c = (sym (none-below c.args.lane.now), omega arith)

-- one Identifier more was looked at
pub loop-id-preserved : goal.loop-id-preserved
loop-id-preserved g c =
    let is = ap (λ (t : Option ℕ). is_some t) (sym c.holder.ensures.ticket) ∙ sym c.is_some.ensures in
    let more = one-more c.args.lane.now c.loop-id.id c.is_some.result is in (
      omega (arith, more, c.one_if-count.ensures.value, c.loop-id.invariant.0),
      omega (arith, c.one_if-count.ensures.small, c.loop-id.invariant.1),
    )

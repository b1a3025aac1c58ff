use Rattle.std.proofs.Common.{refl, ◌∙◌, arith}
use Rattle.roam_sessions.proofs.table.Table.free_all.Goals as goal

pub loop-self-init : goal.loop-self-init
loop-self-init g c = record { sound = c.requires; sessions = refl; count = omega arith; spare = refl }

pub loop-self-preserved : goal.loop-self-preserved
loop-self-preserved g c =
    let old = c.loop-self.invariant in
    record {
      sound = c.free_one.ensures.sound;
      sessions = c.free_one.ensures.sessions ∙ old.sessions;
      count = omega (arith, c.free_one.ensures.count, old.count);
      spare = c.free_one.ensures.room ∙ old.spare;
    }

pub loop-self-smaller : goal.loop-self-smaller
loop-self-smaller g c = omega (arith, c.free_one.ensures.left, c.loop-self-test.true)

pub returns-clause-left : goal.returns-clause-left
returns-clause-left g c = omega (arith, c.loop-self-test.false)

use Rattle.std.proofs.Common.{arith}
use Rattle.roam_history.proofs.blanks.Blanks.new.Goals as goal

pub returns : goal.returns
returns g c =
    let n = c.loop.blanks.ok in
    omega (arith, n, c.loop.invariant, c.loop-test.false, c.loop.auto.counter-end)

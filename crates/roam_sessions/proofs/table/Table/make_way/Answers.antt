use Rattle.std.proofs.Common.{List, length, ap, arith}
use Rattle.roam_sessions.specs.Sessions.{Session}
use Rattle.roam_sessions.proofs.table.Table.make_way.Goals as goal

pub returns-then-len-limit-clause-few : goal.returns-then-len-limit-clause-few
returns-then-len-limit-clause-few g c = omega (arith, c.free_one.ensures.count, c.requires.few)

pub returns-then-len-limit-clause-full : goal.returns-then-len-limit-clause-full
returns-then-len-limit-clause-full g c = λ is.
    let same = ap (λ (l : List Session). length l) c.free_one.ensures.sessions in
    omega (
      arith,
      is,
      same,
      c.free_one.ensures.left,
      c.free_one.ensures.sound.left,
      c.requires.sound.left,
      c.requires.few,
    )

pub returns-else-len-limit-clause-full : goal.returns-else-len-limit-clause-full
returns-else-len-limit-clause-full g c = λ is. absurd (omega (arith, is, c.if-len-limit.false, c.len.ensures))

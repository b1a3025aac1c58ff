use Rattle.std.proofs.Common.{◌+◌, ◌-◌, ◌/◌, List, length, ap, arith}
use Rattle.roam_wire.specs.Numbered.{tickets_end}
use Rattle.roam_sessions.specs.Sessions.{Session}
use Rattle.roam_sessions.specs.Stands.{session_at}
use Rattle.roam_sessions.proofs.NewestLemmas.{length-all, length-more, none-first}
use Rattle.roam_sessions.proofs.chain.Chain.ticket_after.Goals as goal

pub loop-least-init : goal.loop-least-init
loop-least-init g c =
    let F = session_at c.args.self.now in
    let sound = c.requires.sound in
    let all = length-all F c.args.self.now.next tickets_end sound.tickets.given (omega (arith, sound.tickets.within)) in
    record {
      order = omega arith;
      given = omega arith;
      below = omega (arith, none-first F);
      above = omega (arith, c.requires.few, sound.count, ap (λ (l : List Session). length l) all);
    }

pub loop-least-preserved-then-count_before-count : goal.loop-least-preserved-then-count_before-count
loop-least-preserved-then-count_before-count g c =
    let old = c.loop-least.invariant in
    let middle = c.loop-least.least + (c.loop-least.most - c.loop-least.least) / 2 in
    record {
      order = omega (arith, c.loop-least-test.true);
      given = old.given;
      below = omega (
        arith,
        length-more (session_at c.args.self.now) middle,
        c.count_before.ensures,
        c.if-count_before-count.true,
      );
      above = old.above;
    }

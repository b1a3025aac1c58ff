use Rattle.std.proofs.Common.{ℕ, ◌+◌, length, Option, sym, ap, ◌∙◌, arith}
use Rattle.roam_sessions.specs.Ended.{open_of}
use Rattle.roam_sessions.specs.Private.Tickets.{all_listed}
use Rattle.roam_sessions.specs.Sessions.{Session}
use Rattle.roam_sessions.proofs.table.Table.reserve.Goals as goal

pub returns-clause-sound : goal.returns-clause-sound
returns-clause-sound g c = record {
  chain = c.reserve.ensures.sound;
  before = omega (arith, c.requires.before, c.reserve.ensures.next);
  left = ap (λ (F : ℕ → Option Session). length (all_listed (open_of c.args.self.now.ended F)) + c.args.self.now.left)
      c.reserve.ensures.rows
      ∙ c.requires.left ∙ sym c.reserve.ensures.count;
}

pub returns-clause-sessions : goal.returns-clause-sessions
returns-clause-sessions g c =
    ap (λ (F : ℕ → Option Session). all_listed (open_of c.args.self.now.ended F)) c.reserve.ensures.rows

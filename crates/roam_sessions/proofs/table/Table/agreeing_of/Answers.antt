use Rattle.std.proofs.Common.{Option, ℕ, sym, ap}
use Rattle.roam_sessions.specs.Ended.{agreeing_at, open_at, open_count}
use Rattle.roam_sessions.specs.Kept.{shown_asked, shown_session}
use Rattle.roam_sessions.proofs.WalkLemmas.{agreeing-closed, agreeing-one, agreeing-other}
use Rattle.roam_sessions.proofs.table.Table.agreeing_of.Goals as goal

pub returns-in_default : goal.returns-in_default
returns-in_default g c =
    sym (ap (λ (o : Option ℕ). open_count (agreeing_at (shown_asked c.args.asked) c.args.self.now) o) c.in_default.is)

pub returns-in_default-open_session : goal.returns-in_default-open_session
returns-in_default-open_session g c =
    agreeing-closed (shown_asked c.args.asked) (open_at c.args.self.now) c.args.ticket c.in-Some.ticket c.in-Some.is
    (sym (rw c.in_default-open_session.is at c.open_session.ensures))

pub returns-then-agrees : goal.returns-then-agrees
returns-then-agrees g c =
    agreeing-one (shown_asked c.args.asked) (open_at c.args.self.now) c.args.ticket c.in-Some.ticket
    (shown_session c.in-Some-open_session.session) c.in-Some.is
    (sym (rw c.in-Some-open_session.is at c.open_session.ensures)) (sym c.if-agrees.ensures)

pub returns-else-agrees : goal.returns-else-agrees
returns-else-agrees g c =
    agreeing-other (shown_asked c.args.asked) (open_at c.args.self.now) c.args.ticket c.in-Some.ticket
    (shown_session c.in-Some-open_session.session) c.in-Some.is
    (sym (rw c.in-Some-open_session.is at c.open_session.ensures)) (sym c.if-agrees.ensures)

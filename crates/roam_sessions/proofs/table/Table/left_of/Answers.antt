use Rattle.std.proofs.Common.{◌≡◌, ◌-◌, true, false, Option, Some, None, refl, sym}
use Rattle.std.specs.Prelude.{is_some}
use Rattle.roam_sessions.specs.Ended.{open_of, some_count}
use Rattle.roam_sessions.specs.Sessions.{Session}
use Rattle.roam_sessions.specs.Stands.{session_at}
use Rattle.roam_sessions.proofs.table.Table.left_of.Goals as goal

open-none : (o : Option Session) → is_some o ≡ true → 0 ≡ 1 - some_count o
open-none None is = absurd (cc is)
open-none (Some s) is = refl

closed-one : (o : Option Session) → is_some o ≡ false → 1 ≡ 1 - some_count o
closed-one None is = refl
closed-one (Some s) is = absurd (cc is)

pub returns-then-is_open : goal.returns-then-is_open
returns-then-is_open g c =
    open-none (open_of c.args.self.now.ended (session_at c.args.self.now.chain) c.args.ticket)
    (sym c.if-is_open.ensures)

pub returns-else-is_open : goal.returns-else-is_open
returns-else-is_open g c =
    closed-one (open_of c.args.self.now.ended (session_at c.args.self.now.chain) c.args.ticket)
    (sym c.if-is_open.ensures)

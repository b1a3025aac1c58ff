use Rattle.std.proofs.Common.{sym, ◌∙◌}
use Rattle.roam_sessions.specs.Stands.{session_at}
use Rattle.roam_sessions.proofs.OpenLemmas.{nothing-open, open-same}
use Rattle.roam_sessions.proofs.table.Table.parts_of.Goals as goal

pub returns-then-is_open : goal.returns-then-is_open
returns-then-is_open g c =
    c.parts_of.ensures
    ∙ sym (open-same c.args.self.now.ended (session_at c.args.self.now.chain) c.args.ticket (sym c.if-is_open.ensures))

pub returns-else-is_open : goal.returns-else-is_open
returns-else-is_open g c =
    sym (nothing-open c.args.self.now.ended (session_at c.args.self.now.chain) c.args.ticket (sym c.if-is_open.ensures))

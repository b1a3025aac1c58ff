use Rattle.std.proofs.Common.{arith}
use Rattle.roam_migrate.proofs.EntriesOverLemmas.{first_none, first_some}
use Rattle.roam_migrate.proofs.entries.next_to_go.Goals as goal

pub returns-clause-some : goal.returns-clause-some
returns-clause-some g c =
    first_some (g.E.Entries.entries_of c.args.entries.now c.args.realm) _ c.first_done.result c.first_done.ensures
    (omega arith)

pub returns-clause-none : goal.returns-clause-none
returns-clause-none g c =
    first_none (g.E.Entries.entries_of c.args.entries.now c.args.realm) _ c.first_done.result c.first_done.ensures

use Rattle.std.proofs.Common.{◌∙◌}
use Rattle.roam_migrate.proofs.EntriesOverLemmas.{few_after}
use Rattle.roam_migrate.proofs.entries.carry_entries.Goals as goal

pub returns-clause-entries : goal.returns-clause-entries
returns-clause-entries g c =
    few_after c.args.old.now c.args.new.now (g.E.Entries.entries_of c.args.entries.now)
    (g.E.Entries.entries_of c.carry_each.new.entries) (g.E.Entries.entries_of c.keep_few.new.entries)
    c.carry_each.ensures.entries c.keep_few.ensures.entries

pub returns-clause-kept : goal.returns-clause-kept
returns-clause-kept g c = c.keep_few.ensures.kept ∙ c.carry_each.ensures.kept

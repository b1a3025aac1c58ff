use Rattle.std.proofs.Common.{ap, sym}
use Rattle.roam_pending.specs.Shown.{shown, shown_standing}
use Rattle.roam_migrate.proofs.EndsLemmas.{held_on, waits_off, waits_on}
use Rattle.roam_migrate.proofs.ends.standing_ends.Goals as goal

pub returns-in-Some-clause-stays : goal.returns-in-Some-clause-stays
returns-in-Some-clause-stays g c =
    waits_on c.args.old.now c.args.new.now (shown c.args.entry.now) c.args.home c.requires _ c.in-Some.link _ _ _ _ _
    (ap shown_standing c.in-Waiting.is) (sym c.in-Some.ensures)

pub returns-in-None-clause-goes : goal.returns-in-None-clause-goes
returns-in-None-clause-goes g c =
    waits_off c.args.old.now c.args.new.now (shown c.args.entry.now) c.args.home c.requires _ _ _ _ _ _
    (ap shown_standing c.in-Waiting.is) (sym c.in-None.ensures)

pub returns-in-Done-clause-stays : goal.returns-in-Done-clause-stays
returns-in-Done-clause-stays g c =
    held_on c.args.old.now c.args.new.now (shown c.args.entry.now) c.args.home c.requires _ _ _ c.held_link.result
    (ap shown_standing c.in-Done.is) c.held_link.ensures

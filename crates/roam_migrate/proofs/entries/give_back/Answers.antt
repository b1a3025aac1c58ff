use Rattle.std.proofs.Common.{ap}
use Rattle.roam_pending.specs.PlainEntry.{stands_done}
use Rattle.roam_pending.specs.Shown.{shown, shown_standing}
use Rattle.roam_realm.proofs.LaneLemmas.{tells-replaced}
use Rattle.roam_migrate.proofs.EntriesOverLemmas.{on_link, waits_here}
use Rattle.roam_migrate.proofs.entries.give_back.Goals as goal

-- it waits on a link of the realm
pub give_back-requires-clause-link : goal.give_back-requires-clause-link
give_back-requires-clause-link g c =
    on_link c.args.old.now c.args.numbers.now.ticket (shown c.args.entry.now) _ _ _ _ _ _ c.requires.entry
    (ap shown_standing c.in-Waiting.is)

pub returns-in-Waiting-clause-tells : goal.returns-in-Waiting-clause-tells
returns-in-Waiting-clause-tells g c = λ es tells at.
    c.give_back.ensures.tells (shown c.args.entry.now) es tells at
    (waits_here (shown c.args.entry.now) _ _ _ _ _ _ (ap shown_standing c.in-Waiting.is))

-- an answered one waits nowhere
pub returns-in-Done-clause-tells : goal.returns-in-Done-clause-tells
returns-in-Done-clause-tells g c = λ es tells at.
    tells-replaced c.args.old.now es c.args.numbers.now.lanes.items (shown c.args.entry.now).ticket
    (shown c.args.entry.now) tells at (ap stands_done (ap shown_standing c.in-Done.is))

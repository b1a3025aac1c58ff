use Rattle.std.proofs.Common.{◌∙◌, sym}
use Rattle.roam_pending.specs.Shown.{shown}
use Rattle.roam_realm.proofs.LaneLemmas.{tells-nothing}
use Rattle.roam_migrate.proofs.EntriesOverLemmas.{goes_told}
use Rattle.roam_migrate.proofs.entries.let_go.Goals as goal

pub give_back-requires-clause-entry : goal.give_back-requires-clause-entry
give_back-requires-clause-entry g c =
    let found = rw c.index.ensures at c.in-Some.ensures.found in
    c.requires.entry (shown c.in-Some.entry) (sym found)

pub returns-in-Some-clause-tells : goal.returns-in-Some-clause-tells
returns-in-Some-clause-tells g c =
    let found = rw c.index.ensures at c.in-Some.ensures.found in
    goes_told c.args.old.now c.args.numbers.now.lanes.items c.give_back.new.numbers.lanes.items c.args.ticket
    (shown c.in-Some.entry) (g.E.Entries.entries_of c.args.entries.now c.args.old.now.index) (sym found)
    c.give_back.ensures.tells

pub returns-in-None-clause-tells : goal.returns-in-None-clause-tells
returns-in-None-clause-tells g c = λ es tells at.
    let found = rw c.index.ensures at c.in-None.ensures.found in
    tells-nothing c.args.old.now es c.args.numbers.now.lanes.items c.args.ticket tells (at ∙ sym found)

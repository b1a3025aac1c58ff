use Rattle.roam_pending.specs.Realms.{with_ends}
use Rattle.roam_migrate.proofs.CarryingLemmas.{ends_set, ends_tell}
use Rattle.roam_migrate.proofs.entries.carry_one.Goals as goal

pub ends_at-requires : goal.ends_at-requires
ends_at-requires g c = record { entry = λ e at. (c.requires.entry e at).request }

-- its ends are set
pub returns-in-Some-clause-entries : goal.returns-in-Some-clause-entries
returns-in-Some-clause-entries g c =
    let puts = rw c.index.ensures at c.set_ends.ensures.entries in
    ends_set c.args.old.now c.args.new.now c.args.ticket c.in-Some.ends.home c.in-Some.ends.link
    (g.E.Entries.entries_of c.args.entries.now) (g.E.Entries.entries_of c.set_ends.new.self) puts
    c.in-Some.ensures.stays

pub returns-in-Some-clause-tells : goal.returns-in-Some-clause-tells
returns-in-Some-clause-tells g c = λ es tells at.
    ends_tell c.args.old.now c.args.new.now c.args.numbers.now.lanes.items c.args.ticket
    (g.E.Entries.entries_of c.args.entries.now c.args.old.now.index) es
    (with_ends c.in-Some.ends.home c.in-Some.ends.link) c.in-Some.ensures.stays tells at

-- it goes
pub returns-in-None-clause-entries : goal.returns-in-None-clause-entries
returns-in-None-clause-entries g c = rw c.in-None.ensures.goes c.let_go.ensures.entries

pub returns-in-None-clause-tells : goal.returns-in-None-clause-tells
returns-in-None-clause-tells g c = λ es tells at. rw c.in-None.ensures.goes (c.let_go.ensures.tells es tells at)

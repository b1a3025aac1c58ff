use Rattle.std.proofs.Common.{◌∙◌, refl}
use Rattle.roam_migrate.proofs.CarryingLemmas.{carried_all, carried_tell, carrying_begins, carrying_fewer, carrying_goes_on, found_well, now_count}
use Rattle.roam_migrate.proofs.entries.carry_each.Goals as goal

-- none was seen yet
pub loop-due-init : goal.loop-due-init
loop-due-init g c =
    let list = rw c.index-realm.ensures at c.len-count.ensures.list in
    record {
      carrying = carrying_begins c.args.old.now c.args.new.now (g.E.Entries.entries_of c.args.entries.now)
          c.args.numbers.now list.in_order c.requires.each c.requires.tells c.requires.count;
      kept = refl;
    }

-- the next one is an entry of the realm
pub carry_one-requires-clause-entry : goal.carry_one-requires-clause-entry
carry_one-requires-clause-entry g c =
    let list = rw c.index-realm.ensures at c.in-Some.ensures.list in
    let next = rw c.index-realm.ensures at c.in-Some.ensures.next in
    found_well c.args.old.now c.args.new.now (g.E.Entries.entries_of c.args.entries.now) c.args.numbers.now
    (g.E.Entries.entries_of c.loop-due.entries) c.loop-due.numbers c.loop-due.last c.loop-due.invariant.carrying
    c.in-Some.due list.in_order next

pub carry_one-requires-clause-count : goal.carry_one-requires-clause-count
carry_one-requires-clause-count g c =
    now_count c.args.old.now c.args.new.now (g.E.Entries.entries_of c.args.entries.now) c.args.numbers.now
    (g.E.Entries.entries_of c.loop-due.entries) c.loop-due.numbers c.loop-due.last c.loop-due.invariant.carrying

-- it goes, or stays changed
pub loop-due-preserved : goal.loop-due-preserved
loop-due-preserved g c =
    let list = rw c.index-realm.ensures at c.in-Some.ensures.list in
    let next = rw c.index-realm.ensures at c.in-Some.ensures.next in
    let one = c.carry_one.ensures in
    record {
      carrying = carrying_goes_on c.args.old.now c.args.new.now (g.E.Entries.entries_of c.args.entries.now)
          c.args.numbers.now (g.E.Entries.entries_of c.loop-due.entries) c.loop-due.numbers c.loop-due.last
          c.loop-due.invariant.carrying c.in-Some.due list.in_order next
          (g.E.Entries.entries_of c.carry_one.new.entries) c.carry_one.new.numbers one.entries one.tells one.keeps
          one.cursors one.marks;
      kept = one.kept ∙ c.loop-due.invariant.kept;
    }

pub loop-due-smaller : goal.loop-due-smaller
loop-due-smaller g c =
    let list = rw c.index-realm.ensures at c.in-Some.ensures.list in
    let next = rw c.index-realm.ensures at c.in-Some.ensures.next in
    carrying_fewer c.args.old.now c.args.new.now (g.E.Entries.entries_of c.args.entries.now) c.args.numbers.now
    (g.E.Entries.entries_of c.loop-due.entries) c.loop-due.numbers c.loop-due.last c.loop-due.invariant.carrying
    c.in-Some.due list.in_order next

-- all were seen
pub returns-clause-entries : goal.returns-clause-entries
returns-clause-entries g c =
    let list = rw c.index-realm.ensures at c.in_default.ensures.list in
    let none = rw c.index-realm.ensures at c.in_default.ensures.next in
    carried_all c.args.old.now c.args.new.now (g.E.Entries.entries_of c.args.entries.now) c.args.numbers.now
    (g.E.Entries.entries_of c.loop-due.entries) c.loop-due.numbers c.loop-due.last c.loop-due.invariant.carrying
    list.in_order none

pub returns-clause-tells : goal.returns-clause-tells
returns-clause-tells g c =
    let list = rw c.index-realm.ensures at c.in_default.ensures.list in
    let none = rw c.index-realm.ensures at c.in_default.ensures.next in
    carried_tell c.args.old.now c.args.new.now (g.E.Entries.entries_of c.args.entries.now) c.args.numbers.now
    (g.E.Entries.entries_of c.loop-due.entries) c.loop-due.numbers c.loop-due.last c.loop-due.invariant.carrying
    list.in_order none

pub returns-clause-order : goal.returns-clause-order
returns-clause-order g c = c.loop-due.invariant.carrying.order

pub returns-clause-keeps : goal.returns-clause-keeps
returns-clause-keeps g c = c.loop-due.invariant.carrying.keeps

pub returns-clause-cursors : goal.returns-clause-cursors
returns-clause-cursors g c = c.loop-due.invariant.carrying.cursors

pub returns-clause-marks : goal.returns-clause-marks
returns-clause-marks g c = c.loop-due.invariant.carrying.marks

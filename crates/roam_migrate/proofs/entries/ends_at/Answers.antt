use Rattle.std.proofs.Common.{sym}
use Rattle.std.proofs.lemmas.Option.{IfSome_then}
use Rattle.roam_pending.specs.Shown.{shown}
use Rattle.roam_migrate.proofs.EntriesOverLemmas.{ends_found, none_found, none_then}
use Rattle.roam_migrate.proofs.entries.ends_at.Goals as goal

pub ends_then-requires : goal.ends_then-requires
ends_then-requires g c =
    let found = rw c.index.ensures at c.in-Some.ensures.found in
    c.requires.entry (shown c.in-Some.entry.now) (sym found)

pub returns-in-Some-clause-stays : goal.returns-in-Some-clause-stays
returns-in-Some-clause-stays g c =
    let found = rw c.index.ensures at c.in-Some.ensures.found in
    IfSome_then c.ends_then.result c.ends_then.ensures.stays
    (λ ends is. ends_found c.args.old.now c.args.new.now c.args.ticket (shown c.in-Some.entry.now)
    (g.E.Entries.entries_of c.args.entries.now c.args.old.now.index) ends.home ends.link (sym found) is)

pub returns-in-Some-clause-goes : goal.returns-in-Some-clause-goes
returns-in-Some-clause-goes g c =
    let found = rw c.index.ensures at c.in-Some.ensures.found in
    none_then c.ends_then.result c.ends_then.ensures.goes
    (none_found c.args.old.now c.args.new.now c.args.ticket (shown c.in-Some.entry.now)
    (g.E.Entries.entries_of c.args.entries.now c.args.old.now.index) (sym found))

use Rattle.std.proofs.Common.{◌≡◌, Option, Some, refl, sym, ◌∙◌, subst}
use Rattle.std.specs.Prelude.{IsSome}
use Rattle.roam_sessions.specs.Maps.{ends_at, linked, linked_at, links_at}
use Rattle.roam_sessions.specs.Private.Groups.{PutsRow}
use Rattle.roam_sessions.specs.declared.ends.Ends.{Ends}
use Rattle.roam_sessions.proofs.LinkLemmas.{beside-fits}
use Rattle.roam_sessions.proofs.LinkedLemmas.{linked-parts}
use Rattle.roam_sessions.proofs.StayLemmas.{both-stay, still}
use Rattle.roam_sessions.proofs.linked.unlink.Goals as goal

pub returns-clause-grouped : goal.returns-clause-grouped
returns-clause-grouped g c = λ f h grouped goes.
    let facet = c.args.facet in
    let ends = c.args.ends.now in
    let row = c.args.row.now in
    let b = c.in-Some-beside_in.beside in
    let there : ends_at ends row ≡ Some c.in-Some.ends_now = sym c.ends_of.ensures ∙ c.in-Some.is in
    let held : IsSome (ends_at ends row) = rw there refl in
    let was : linked_at facet c.args.links.now c.args.number ≡ Some b =
    sym c.beside_in.ensures ∙ c.in-Some-beside_in.is in
    let fits = beside-fits (links_at c.args.links.now c.args.number) facet b was in
    linked-parts f h (linked facet ends c.args.links.now) (linked facet c.set.new.map c.link_older.new.map)
    (linked_at facet c.link_newer.new.map) c.args.number row c.in-Some.ends_now b grouped goes there was
    (c.link_newer.ensures.numbers fits.1) (c.link_older.ensures.numbers fits.0)
    (subst (λ (o : Option Ends). PutsRow (ends_at ends) (ends_at c.set.new.map) row o) c.ends_left.ensures
    (c.set.ensures.puts held))

pub returns-clause-others : goal.returns-clause-others
returns-clause-others g c = λ other apart u.
    c.link_older.ensures.others other apart u ∙ c.link_newer.ensures.others other apart u

pub returns-in_default-clause-stay : goal.returns-in_default-clause-stay
returns-in_default-clause-stay g c = still c.args.links.now

pub returns-in_default-beside_in-clause-stay : goal.returns-in_default-beside_in-clause-stay
returns-in_default-beside_in-clause-stay g c = still c.args.links.now

pub returns-clause-stay : goal.returns-clause-stay
returns-clause-stay g c =
    both-stay c.args.links.now c.link_newer.new.map c.link_older.new.map c.link_newer.ensures.stay c.link_older.ensures.stay

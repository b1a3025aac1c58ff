use Rattle.std.proofs.Common.{◌≡◌, Option, Some, None, refl, sym, ◌∙◌, subst}
use Rattle.std.specs.Prelude.{IsSome}
use Rattle.roam_sessions.specs.Maps.{chained, ends_by, linked_at, links_at}
use Rattle.roam_sessions.specs.Private.Buckets.{bucket_text, in_bucket}
use Rattle.roam_sessions.specs.Private.Groups.{AreEndsOf, IsBesideOf, PutsRow}
use Rattle.roam_sessions.specs.declared.ends.Ends.{Ends}
use Rattle.roam_sessions.specs.declared.neighbours.Beside.{Beside}
use Rattle.roam_sessions.proofs.BucketLemmas.{puts-bucket}
use Rattle.roam_sessions.proofs.GroupLemmas.{in-own}
use Rattle.roam_sessions.proofs.LinkLemmas.{beside-fits}
use Rattle.roam_sessions.proofs.LinkedLemmas.{linked-parts}
use Rattle.roam_sessions.proofs.StayLemmas.{both-stay, still}
use Rattle.roam_sessions.proofs.bucketed.leave_bucket.Goals as goal

-- a number of a bucket has ends there, and neighbours
pub returns-in_default-clause-grouped : goal.returns-in_default-clause-grouped
returns-in_default-clause-grouped g c = λ f h grouped goes.
    let row = bucket_text c.args.bucket in
    let none : ends_by c.args.ends.now c.args.bucket ≡ None = sym c.ends_in.ensures ∙ c.in_default.is in
    let empty = subst (λ (o : Option Ends). AreEndsOf f row o) none (grouped.ends row) in
    absurd (let there = in-own f c.args.number row goes.was in let gone = empty c.args.number in cc (there, gone))

pub returns-in_default-beside_in-clause-grouped : goal.returns-in_default-beside_in-clause-grouped
returns-in_default-beside_in-clause-grouped g c = λ f h grouped goes.
    let row = bucket_text c.args.bucket in
    let none : linked_at c.args.facet c.args.links.now c.args.number ≡ None =
    sym c.beside_in.ensures ∙ c.in_default-beside_in.is in
    absurd (subst (λ (o : Option Beside). IsBesideOf f row c.args.number o) none
    (grouped.beside c.args.number row goes.was))

pub returns-clause-grouped : goal.returns-clause-grouped
returns-clause-grouped g c = λ f h grouped goes.
    let facet = c.args.facet in
    let bucket = c.args.bucket in
    let row = bucket_text bucket in
    let old = ends_by c.args.ends.now in
    let new = ends_by c.set_in.new.map in
    let b = c.in-Some-beside_in.beside in
    let there : old bucket ≡ Some c.in-Some.ends_now = sym c.ends_in.ensures ∙ c.in-Some.is in
    let held : IsSome (old bucket) = rw there refl in
    let was : linked_at facet c.args.links.now c.args.number ≡ Some b =
    sym c.beside_in.ensures ∙ c.in-Some-beside_in.is in
    let fits = beside-fits (links_at c.args.links.now c.args.number) facet b was in
    linked-parts f h (chained facet c.args.ends.now c.args.links.now) (chained facet c.set_in.new.map c.link_older.new.map)
    (linked_at facet c.link_newer.new.map) c.args.number row c.in-Some.ends_now b grouped goes there was
    (c.link_newer.ensures.numbers fits.1) (c.link_older.ensures.numbers fits.0)
    (subst (λ (o : Option Ends). PutsRow (in_bucket old) (in_bucket new) row o) c.ends_left.ensures
    (puts-bucket old new bucket c.ends_left.result (c.set_in.ensures.puts held)))

pub returns-clause-others : goal.returns-clause-others
returns-clause-others g c = λ other apart u.
    c.link_older.ensures.others other apart u ∙ c.link_newer.ensures.others other apart u

pub returns-in_default-clause-stay : goal.returns-in_default-clause-stay
returns-in_default-clause-stay g c = still c.args.links.now

pub returns-in_default-beside_in-clause-stay : goal.returns-in_default-beside_in-clause-stay
returns-in_default-beside_in-clause-stay g c = still c.args.links.now

pub returns-clause-stay : goal.returns-clause-stay
returns-clause-stay g c =
    both-stay c.args.links.now c.link_newer.new.map c.link_older.new.map c.link_newer.ensures.stay c.link_older.ensures.stay

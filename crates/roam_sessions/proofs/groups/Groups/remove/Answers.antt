use Rattle.std.proofs.Common.{◌≡◌, Option, Some, refl, sym, ◌∙◌, subst}
use Rattle.std.specs.Prelude.{IsSome}
use Rattle.roam_sessions.specs.Maps.{beside_at, ends_at, groups_of}
use Rattle.roam_sessions.specs.Private.Groups.{PutsRow}
use Rattle.roam_sessions.specs.declared.ends.Ends.{Ends}
use Rattle.roam_sessions.proofs.UnlinkLemmas.{grouped-unlinked}
use Rattle.roam_sessions.proofs.groups.Groups.remove.Goals as goal

pub returns-clause-grouped : goal.returns-clause-grouped
returns-clause-grouped g c = λ f h grouped goes.
    let ends = c.args.self.now.ends in
    let row = c.args.row.now in
    let there : ends_at ends row ≡ Some c.in-Some.ends = sym c.ends_of.ensures ∙ c.in-Some.is in
    let held : IsSome (ends_at ends row) = rw there refl in
    grouped-unlinked f h (groups_of c.args.self.now)
    (record { ends = ends_at c.set.new.map; beside = beside_at c.set_older.new.map }) c.args.number row
    c.in-Some.ends c.in-Some-take.beside grouped goes.was goes.puts (record {
      there = there;
      was = sym c.take.ensures.was ∙ c.in-Some-take.is;
      first = beside_at c.take.new.map;
      second = beside_at c.set_newer.new.map;
      takes = c.take.ensures.puts;
      newer = c.set_newer.ensures.numbers;
      older = c.set_older.ensures.numbers;
      ends = subst (λ (o : Option Ends). PutsRow (ends_at ends) (ends_at c.set.new.map) row o) c.ends_left.ensures
          (c.set.ensures.puts held);
    })

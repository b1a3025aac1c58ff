-- The tally that is told first is the first of the first row that isn't empty.
use Rattle.std.proofs.Common.{◌≡◌, refl}
use Rattle.roam_log.proofs.RowLemmas.{all_tallies-none, first-is_there, first-of_all}
use Rattle.roam_log.specs.Repeats.{IsFirstRow}
use Rattle.roam_log.proofs.repeats.Repeats.take_first.Goals as goal

pub returns-in-Some-clause-some : goal.returns-in-Some-clause-some
returns-in-Some-clause-some c =
    let same : c.args.self.now ≡ c.self.inside.rows.items = cc in
    let first : IsFirstRow c.self.inside.rows.items c.in-Some.row = rw (← same) c.in-Some.ensures.first in
    first-of_all c.args.self.now c.self.inside.rows.items c.in-Some.row c.index_mut.result.now c.take_first.new.self
    c.take_first.result same first c.index_mut.ensures.value c.take_first.ensures

pub returns-in-Some-clause-none : goal.returns-in-Some-clause-none
returns-in-Some-clause-none c =
    let same : c.args.self.now ≡ c.self.inside.rows.items = cc in
    let first : IsFirstRow c.self.inside.rows.items c.in-Some.row = rw (← same) c.in-Some.ensures.first in
    first-is_there c.self.inside.rows.items c.in-Some.row c.index_mut.result.now c.take_first.new.self
    c.take_first.result _ first c.index_mut.ensures.value c.take_first.ensures

pub returns-in-None-clause-none : goal.returns-in-None-clause-none
returns-in-None-clause-none c = (all_tallies-none c.args.self.now c.in-None.ensures.none, refl)

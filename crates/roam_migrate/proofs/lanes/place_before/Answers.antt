use Rattle.std.proofs.Common.{◌≡◌, ◌∙◌, None, Some, subst, sym}
use Rattle.std.proofs.lemmas.Option.{same_Some}
use Rattle.roam_realm.specs.RealmConfig.{IsLink}
use Rattle.roam_migrate.proofs.lanes.place_before.Goals as goal

pub place_of-requires : goal.place_of-requires
place_of-requires c = c.has_link.ensures.0 c.if-has_link.true

pub returns-then-has_link-clause-some : goal.returns-then-has_link-clause-some
returns-then-has_link-clause-some c = record {
  before = c.in-Some.before;
  was = sym c.in-Some.ensures;
  link = c.has_link.ensures.0 c.if-has_link.true;
  at = sym c.place_of.ensures.place;
}

pub returns-else-has_link-clause-none : goal.returns-else-has_link-clause-none
returns-else-has_link-clause-none c = λ l was is.
    let same = same_Some l c.in-Some.before (sym was ∙ sym c.in-Some.ensures) in
    let there = c.has_link.ensures.1 (subst (IsLink c.args.old.now) same is) in
    let no' = sym there ∙ c.if-has_link.false in
    cc no'

pub returns-in-None-clause-none : goal.returns-in-None-clause-none
returns-in-None-clause-none c = λ l was is. (let no' : None ≡ Some l = c.in-None.ensures ∙ was in cc no')

use Rattle.std.proofs.Common.{◌≡◌, ◌∙◌, ◌++◌, true, map, sym, append_assoc, arith}
use Rattle.roam_conf.specs.Index.{owners, of_owner}
use Rattle.roam_conf.specs.Parts.{shown_realm}
use Rattle.roam_conf.specs.Patterns.{patterns_of}
use Rattle.roam_conf.proofs.NameLemmas.{patterns_at, more_new, not_new}
use Rattle.roam_conf.proofs.names.note_realms.Goals as goal

-- one of the realm's patterns is there already
pub returns-then-not-branch-clause-new : goal.returns-then-not-branch-clause-new
returns-then-not-branch-clause-new c =
    let at = patterns_at c.args.realms.now c.loop-place.place c.index-realms-place.result (omega arith)
    c.index-realms-place.is in
    let before = rw at at c.loop-place.invariant.0 in
    not_new (owners c.args.index.now) (owners c.loop-place.index)
    (map (of_owner c.loop-place.place) (patterns_of (shown_realm c.index-realms-place.result))) _ _
    (sym c.if-not-branch.true ∙ c.in_ok-note_realm.ensures.new) before

-- all of them are new
pub loop-place-preserved : goal.loop-place-preserved
loop-place-preserved c =
    let here = map (of_owner c.loop-place.place) (patterns_of (shown_realm c.index-realms-place.result)) in
    let at = patterns_at c.args.realms.now c.loop-place.place c.index-realms-place.result (omega arith)
    c.index-realms-place.is in
    let before = rw at at c.loop-place.invariant.0 in
    let joined = rw at at c.loop-place.invariant.1 in
    let is_new : c.in_ok-note_realm.field-0 ≡ true = c.if-not-branch.false in
    let noted : owners c.note_realm.new.index ≡ owners c.loop-place.index ++ here =
    c.in_ok-note_realm.ensures.noted is_new in
    rw noted (
      more_new (owners c.args.index.now) (owners c.loop-place.index) here _ _ (sym is_new
          ∙ c.in_ok-note_realm.ensures.new) before,
      append_assoc (owners c.loop-place.index) here _ ∙ joined,
    )

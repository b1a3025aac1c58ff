use Rattle.std.proofs.Common.{◌≡◌, ◌∙◌, ◌++◌, true, map, sym}
use Rattle.roam_conf.specs.Index.{owners, all_patterns}
use Rattle.roam_conf.specs.Parts.{shown_realm}
use Rattle.roam_conf.specs.Patterns.{patterns_of, shown_pattern}
use Rattle.roam_conf.proofs.NameLemmas.{not_all_new, all_are_new, all_noted}
use Rattle.roam_conf.proofs.names.note_all.Goals as goal

-- one of the realms' patterns is there already
pub returns-then-not-branch-clause-new : goal.returns-then-not-branch-clause-new
returns-then-not-branch-clause-new c =
    not_all_new (owners c.args.index.now) c.args.realms.now (map shown_pattern c.args.reject.now)
    (sym c.if-not-branch.true ∙ c.in_ok-note_realms.ensures.new)

-- all of them are new, and those to reject may be
pub returns-clause-new : goal.returns-clause-new
returns-clause-new c =
    let realms = all_patterns 0 (map patterns_of (map shown_realm c.args.realms.now)) in
    let is_new : c.in_ok-note_realms.field-0 ≡ true = c.if-not-branch.false in
    let noted : owners c.note_realms.new.index ≡ owners c.args.index.now ++ realms =
    c.in_ok-note_realms.ensures.noted is_new in
    all_are_new (owners c.args.index.now) c.args.realms.now (map shown_pattern c.args.reject.now)
    c.in_ok-are_new.are_new (sym is_new ∙ c.in_ok-note_realms.ensures.new) (rw noted at c.in_ok-are_new.ensures.new)

pub returns-clause-noted : goal.returns-clause-noted
returns-clause-noted c = λ all_new.
    let realms = all_patterns 0 (map patterns_of (map shown_realm c.args.realms.now)) in
    let is_new : c.in_ok-note_realms.field-0 ≡ true = c.if-not-branch.false in
    let noted : owners c.note_realms.new.index ≡ owners c.args.index.now ++ realms =
    c.in_ok-note_realms.ensures.noted is_new in
    rw noted at (c.in_ok-are_new.ensures.noted all_new)
    ∙ all_noted (owners c.args.index.now) c.args.realms.now (map shown_pattern c.args.reject.now)

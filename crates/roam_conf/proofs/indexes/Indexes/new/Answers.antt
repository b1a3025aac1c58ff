use Rattle.std.proofs.Common.{◌≡◌, ◌∙◌, ◌++◌, true, not, map, ap}
use Rattle.roam_conf.specs.Index.{entry_shown, all_patterns}
use Rattle.roam_conf.specs.Lookup.{pattern_lists}
use Rattle.roam_conf.specs.Parts.{shown_realm}
use Rattle.roam_conf.specs.Patterns.{shown_pattern}
use Rattle.roam_conf.proofs.NameLemmas.{first_noted}
use Rattle.roam_conf.proofs.indexes.Indexes.new.Goals as goal

-- no name or pattern is there twice, so all are noted
pub returns-clause-names : goal.returns-clause-names
returns-clause-names c =
    let realms = map shown_realm c.args.realms.now in
    let reject = map shown_pattern c.args.reject.now in
    let empty = ap (map entry_shown) c.new-names.ensures.empty in
    let is_new : c.in_ok-note_all.field-0 ≡ true =
    first_noted realms reject _ c.in_ok-note_all.field-0 empty c.in_ok-note_all.ensures.new
    ∙ ap not c.requires.distinct in
    c.in_ok-note_all.ensures.noted is_new ∙ ap (λ l. l ++ all_patterns 0 (pattern_lists realms reject)) empty

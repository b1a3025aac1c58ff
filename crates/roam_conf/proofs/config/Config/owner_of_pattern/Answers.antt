use Rattle.std.proofs.Common.{◌∙◌, ◌≤◌, length, sym, ap, arith}
use Rattle.std.proofs.lemmas.Bool.Decides.{nat_tests}
use Rattle.roam_conf.specs.Config.{suffix}
use Rattle.roam_conf.specs.Lookup.{owner_with, first_answer, after_dots}
use Rattle.roam_conf.specs.Shown.{shown}
use Rattle.roam_conf.proofs.NameLemmas.{further_answer}
use Rattle.roam_conf.proofs.config.Config.owner_of_pattern.Goals as goal

-- some suffix is a realm's
pub returns-in-Some : goal.returns-in-Some
returns-in-Some c =
    let config = shown c.args.self.now in
    let some : 1 ≤ length c.args.name.now = grind (arith, nat_tests, c.is_empty.ensures, c.if-is_empty.false) in
    let found = sym c.in-Some.is ∙ c.owner_of_longest_suffix.ensures
    ∙ ap (λ l. first_answer (λ n. owner_with config (suffix n)) (after_dots l)) c.from_place.ensures in
    further_answer (owner_with config) c.args.name.now _ some found

-- none is
pub returns-in-None : goal.returns-in-None
returns-in-None c =
    let config = shown c.args.self.now in
    let some : 1 ≤ length c.args.name.now = grind (arith, nat_tests, c.is_empty.ensures, c.if-is_empty.false) in
    let found = sym c.in-None.is ∙ c.owner_of_longest_suffix.ensures
    ∙ ap (λ l. first_answer (λ n. owner_with config (suffix n)) (after_dots l)) c.from_place.ensures in
    c.owner_with.ensures ∙ further_answer (owner_with config) c.args.name.now _ some found

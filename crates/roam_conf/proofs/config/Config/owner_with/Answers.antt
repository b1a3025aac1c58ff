use Rattle.std.proofs.Common.{◌∙◌, arith}
use Rattle.roam_conf.specs.Index.{pattern_seen}
use Rattle.roam_conf.specs.Shown.{shown}
use Rattle.roam_conf.proofs.NameLemmas.{found_in}
use Rattle.roam_conf.proofs.ShortNameLemmas.{not_found}
use Rattle.roam_conf.proofs.config.Config.owner_with.Goals as goal

pub returns-then-name-gt253 : goal.returns-then-name-gt253
returns-then-name-gt253 c =
    not_found c.args.self.now (pattern_seen c.args.pattern) _ _ (omega arith) c.kind_and_name-kind.ensures

pub returns : goal.returns
returns c =
    c.owner_of_pattern.ensures ∙ found_in (shown c.args.self.now) (pattern_seen c.args.pattern) _ _
    c.args.self.now.names_noted c.kind_and_name-kind.ensures

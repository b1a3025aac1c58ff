use Rattle.roam_conf.specs.Shown.{shown}
use Rattle.roam_conf.proofs.LookupLaws.{ill_formed_name}
use Rattle.roam_conf.proofs.laws.ill_formed_names_are_matched_whole.Goals as goal

pub returns : goal.returns
returns c = ill_formed_name (shown c.args.config.now) c.args.name.now c.requires

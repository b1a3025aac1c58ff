use Rattle.roam_conf.specs.Shown.{shown}
use Rattle.roam_conf.proofs.TargetLaws.{whole_first}
use Rattle.roam_conf.proofs.laws.whole_identifier_comes_first.Goals as goal

pub returns : goal.returns
returns c = whole_first (shown c.args.config.now).peers c.args.name.now c.args.peer c.requires

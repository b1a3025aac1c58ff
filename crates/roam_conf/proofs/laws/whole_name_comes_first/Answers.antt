use Rattle.roam_conf.specs.Shown.{shown}
use Rattle.roam_conf.proofs.LookupLaws.{whole_name}
use Rattle.roam_conf.proofs.laws.whole_name_comes_first.Goals as goal

pub returns : goal.returns
returns c = whole_name (shown c.args.config.now) c.args.name.now c.args.owner c.requires

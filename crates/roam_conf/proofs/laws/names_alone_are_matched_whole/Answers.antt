use Rattle.roam_conf.specs.Shown.{shown}
use Rattle.roam_conf.proofs.LookupLaws.{names_alone}
use Rattle.roam_conf.proofs.laws.names_alone_are_matched_whole.Goals as goal

pub returns : goal.returns
returns c = names_alone (shown c.args.config.now) c.requires.realms c.requires.reject c.args.name.now

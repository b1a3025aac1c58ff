use Rattle.roam_conf.specs.Shown.{shown}
use Rattle.roam_conf.proofs.TargetLaws.{longest_front}
use Rattle.roam_conf.proofs.laws.longest_front_comes_next.Goals as goal

pub returns : goal.returns
returns c =
    longest_front (shown c.args.config.now).peers c.args.name.now c.args.front.now c.args.peer c.requires.unnamed
    c.requires.begins c.requires.named c.requires.longest

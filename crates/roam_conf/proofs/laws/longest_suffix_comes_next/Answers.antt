use Rattle.roam_conf.specs.Shown.{shown}
use Rattle.roam_conf.proofs.LookupLaws.{longest_suffix}
use Rattle.roam_conf.proofs.laws.longest_suffix_comes_next.Goals as goal

pub returns : goal.returns
returns c =
    longest_suffix (shown c.args.config.now) c.args.name.now c.args.ending.now c.args.owner c.requires.unnamed
    c.requires.fits c.requires.ends c.requires.named c.requires.longest

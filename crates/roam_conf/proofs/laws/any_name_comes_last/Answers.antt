use Rattle.roam_conf.specs.Shown.{shown}
use Rattle.roam_conf.proofs.LookupLaws.{any_name}
use Rattle.roam_conf.proofs.laws.any_name_comes_last.Goals as goal

pub returns : goal.returns
returns c =
    any_name (shown c.args.config.now) c.args.name.now c.requires.some c.requires.unnamed c.requires.fits
    c.requires.no_suffix

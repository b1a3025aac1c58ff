use Rattle.roam_conf.proofs.EqualRealmLemmas.{config_decides}
use Rattle.roam_conf.proofs.config.Config.is_same.Goals as goal

pub returns : goal.returns
returns c = rw c.eq.ensures (config_decides c.args.self.now c.args.other.now)

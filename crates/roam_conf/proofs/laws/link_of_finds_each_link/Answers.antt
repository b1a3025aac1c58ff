use Rattle.roam_conf.specs.Shown.{shown}
use Rattle.roam_conf.proofs.OneLinkLemmas.{link_in_is_found}
use Rattle.roam_conf.proofs.laws.link_of_finds_each_link.Goals as goal

pub returns : goal.returns
returns c =
    link_in_is_found (shown c.args.config.now) c.args.realm c.args.endpoint c.args.link
    c.args.config.now.distinct_servers c.args.config.now.distinct_links c.requires

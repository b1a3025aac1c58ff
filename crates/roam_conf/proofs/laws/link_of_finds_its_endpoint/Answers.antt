use Rattle.roam_conf.specs.Shown.{shown}
use Rattle.roam_conf.proofs.LinkLemmas.{link_in_found, link_in_leaves}
use Rattle.roam_conf.proofs.laws.link_of_finds_its_endpoint.Goals as goal

pub returns-clause-ends : goal.returns-clause-ends
returns-clause-ends c =
    link_in_found (shown c.args.config.now) c.args.realm c.args.out c.args.endpoint c.args.link c.requires

pub returns-clause-leaves : goal.returns-clause-leaves
returns-clause-leaves c =
    link_in_leaves (shown c.args.config.now) c.args.realm c.args.out c.args.endpoint c.args.link c.requires

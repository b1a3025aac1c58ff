use Rattle.roam_conf_reader.proofs.following.following_config.Goals as goal

pub new-requires : goal.new-requires
new-requires c = c.is_consistent.ensures c.if-not-is_consistent.false

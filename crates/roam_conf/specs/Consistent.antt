-- The consistency of a configuration's values. Ours.
use Rattle.std.specs.Prelude.{◌≡◌, false}
use Rattle.roam_conf.specs.Asking.{has_unknown_peer}
use Rattle.roam_conf.specs.Config.{ConfigView}
use Rattle.roam_conf.specs.Duplicates.{has_duplicate_realm, has_duplicate_peer, has_duplicate_endpoint, has_duplicate_server, has_duplicate_link}
use Rattle.roam_conf.specs.Ways.{has_no_way_out}

-- nothing stands twice that may not, no server is where its realm's `out` sends nothing, and no peer is named that
-- isn't there
pub record IsConsistent (config : ConfigView) : Type 0 where
  pub realms : has_duplicate_realm config.realms config.reject ≡ false
  pub peers : has_duplicate_peer config.peers ≡ false
  pub endpoints : has_duplicate_endpoint config.auth config.acct config.realms ≡ false
  pub servers : has_duplicate_server config.realms ≡ false
  pub links : has_duplicate_link config.peers config.realms ≡ false
  pub ways : has_no_way_out config.realms ≡ false
  pub known : has_unknown_peer config.peers config.realms ≡ false

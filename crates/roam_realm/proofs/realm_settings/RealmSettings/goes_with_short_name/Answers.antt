use Rattle.std.proofs.Common.{ℕ, subst}
use Rattle.roam_forward.specs.Shaped.{HasShortName}
use Rattle.roam_conf.specs.Shown.{shown}
use Rattle.roam_realm.specs.RealmConfig.{RealmConfig, realm_config}
use Rattle.roam_realm.specs.Shapings.{shaping_of}
use Rattle.roam_realm.proofs.ShortNameLemmas.{request-short}
use Rattle.roam_realm.proofs.realm_settings.RealmSettings.goes_with_short_name.Goals as goal

pub returns : goal.returns
returns c =
    subst (λ (x : RealmConfig). (code : ℕ) → HasShortName (shaping_of x c.args.requester code c.args.link))
    c.self.view_is (request-short (realm_config (shown c.self.inside.config.now) c.self.inside.realm)
    c.peers_have_short_names.ensures c.args.requester c.args.link)

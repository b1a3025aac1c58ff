-- What a run over a fresh broker says.
use Rattle.std.proofs.Common.{◌≡◌, List, ap, sym, ◌∙◌}
use Rattle.roam_conf.specs.Config.{ConfigView}
use Rattle.roam_realm.specs.RealmState.{RealmState}
use Rattle.roam_core.specs.BrokerView.{BrokerView}
use Rattle.roam_core.specs.Openings.{fresh, fresh_starts, openings}
use Rattle.test_callers.specs.FreshBroker.{fresh_broker}

-- it is the fresh broker of its configuration
pub is_fresh : (b : BrokerView) (config : ConfigView) → b.config ≡ config → b.states ≡ fresh config
    → fresh_broker config ≡ b
is_fresh b config same states =
    ap (λ (c : ConfigView). record { config = c; states = fresh config }) (sym same)
    ∙ ap (λ (ss : List RealmState). record { config = b.config; states = ss }) (sym states)

-- it begins at the first starts
pub opens_fresh : (b : BrokerView) (config : ConfigView) → b.config ≡ config
    → b.states ≡ fresh config → b.states ≡ openings b.config (fresh_starts config)
opens_fresh b config same states =
    states ∙ ap (λ (c : ConfigView). openings c (fresh_starts config)) (sym same)

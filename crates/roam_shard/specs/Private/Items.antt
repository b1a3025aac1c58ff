-- The effect of one item of a sessions' file where a shard takes it up: words of private functions alone (ours).
use Rattle.std.specs.Prelude.{◌≡◌, ℕ, ◌==◌, false, List, Option, Some, None}
use Rattle.std.specs.Option.{option_map_or}
use Rattle.roam_conf.specs.Config.{ConfigView}
use Rattle.roam_sessions.specs.Ledgers.{SavedItem, realm, session}
use Rattle.roam_realm.specs.RealmState.{RealmState}
use Rattle.roam_shard.specs.Restoring.{is_named, with_one}

-- the realm whose sessions come then, and the states
abbrev pub TakesUp : ConfigView → ℕ → SavedItem → Option ℕ → Option ℕ → List RealmState → List RealmState → Type 0
TakesUp config shard (realm name own_sessions) before after old new =
    ((index : ℕ) → is_named config index name own_sessions ≡ option_map_or (λ place. index == place) after false)
    × (new ≡ old)
TakesUp config shard (session s) None after old new = (after ≡ None) × (new ≡ old)
TakesUp config shard (session s) (Some index) after old new =
    (after ≡ Some index) × (new ≡ with_one config shard index s old)

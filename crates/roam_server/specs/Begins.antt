-- The beginning of a server (ours).
use Rattle.std.specs.Prelude.{◌≡◌, ℕ, List, Some, slice_get}
use Rattle.roam_conf.specs.Config.{ConfigView}
use Rattle.roam_sessions.specs.Ledgers.{SavedItem}
use Rattle.roam_core.specs.Openings.{fresh}
use Rattle.roam_shard.specs.Pausing.{states_under}
use Rattle.roam_shard.specs.Restoring.{restored_states}
use Rattle.roam_shard.specs.declared.paused.Paused.{Paused}
use Rattle.roam_history.specs.HubOpening.{HubOpening}
use Rattle.roam_shard.specs.Paused.{ArePaused, IsPaused}

-- ## Begin of a server
-- Each realm of a server begins at place 0 of its random words and ticket 0, with no entry, and with those sessions
-- that a file of ledgers has of it; with none where no file was read. So tickets and words begin anew at a restart,
-- under another seed, and what waited or was held is lost.
-- Source: ours
-- Rules out: a server that begins in a state which no restart leaves; sessions from elsewhere than the file
-- Stands in: `roam_server` `Begins.antt`: `opening_with`, `HaveBegun`, `HasBegun`; `Served.antt`: `HasServedAll`;
-- `beginning`
--
-- the opening of the first hub, with what a file of ledgers has
abbrev pub opening_with : ConfigView → List SavedItem → HubOpening
opening_with config items =
    record { config = config; states = λ shard. restored_states config shard items (fresh config) }

module _ {A : Type 0} where
  -- the shard of a number stands so
  pub record HasBegun (config : ConfigView) (items : List SavedItem) (number : ℕ) (p : Paused A) : Type 0 where
    pub paused : IsPaused config number p
    pub states : states_under config p ≡ restored_states config number items (fresh config)

  -- shards stand so, one for each number
  pub record HaveBegun (config : ConfigView) (items : List SavedItem) (shards : List (Paused A)) : Type 0 where
    pub paused : ArePaused config shards
    pub states : (k : ℕ) (p : Paused A) → slice_get shards k ≡ Some p
        → states_under config p ≡ restored_states config k items (fresh config)

-- The histories of a hub's shards, and where its realms stand at their end (ours).
use Rattle.std.specs.Prelude.{◌≡◌, ℕ, ◌+◌, ◌<◌, ◌%◌, zero, suc, List, [], ◌∷◌, length}
use Rattle.roam_realm.specs.RealmState.{RealmState}
use Rattle.roam_realm.specs.declared.start.Start.{Start}
use Rattle.roam_core.specs.ManyRealms.{state_at}
use Rattle.roam_shard.specs.History.{IsHistory, end_of}
use Rattle.roam_shard.specs.Steps.{PlainStep}
use Rattle.roam_history.specs.HubOpening.{HubOpening, opening_at}
use Rattle.roam_history.specs.Audit.{steps_of}

-- ## Histories at the end
-- When a hub closes there are as many lists of steps as shards, and each, with those that were let go of, is a
-- history from the hub's opening with that shard's number; what is still stored are the last ones of each.
-- Source: ours
-- Rules out: a shard whose steps are left out; steps under another shard's number
-- Stands in: `roam_hub` `Histories.antt`: `AreHistories`; `Hub::close`, `pause`: `histories`, `stored`
--
-- what was recorded of all shards: of each, a history from the hub's opening
pub record AreHistories (o : HubOpening) (steps : List (List PlainStep)) : Type 0 where
  pub count : length steps ≡ o.config.shards
  pub each : (shard : ℕ) → shard < length steps → IsHistory (opening_at o shard) (steps_of steps shard)

-- where a realm stands at the end of its own shard's history
abbrev pub state_at_end : HubOpening → List (List PlainStep) → ℕ → RealmState
state_at_end o steps realm =
    let shard = realm % o.config.shards in
    state_at (end_of (opening_at o shard) (steps_of steps shard)) realm

-- ## Starts at the end
-- Where a realm would go on: the place in its random words and its next ticket in the state in which its own
-- shard's history ends. They are starts again.
-- Source: ours
-- Rules out: a random word or a ticket that is used a second time by the hub that goes on
-- Stands in: `roam_hub` `Histories.antt`: `start_at_end`, `starts_at_end`; `Hub::close`
--
-- and where it would begin that went on from there
abbrev pub start_at_end : HubOpening → List (List PlainStep) → ℕ → Start
start_at_end o steps realm =
    let s = state_at_end o steps realm in record { place = s.stream_position; ticket = s.ticket }

-- those of so many realms from one on
unfoldable pub starts_from : HubOpening → List (List PlainStep) → ℕ → ℕ → List Start
starts_from o steps realm zero = []
starts_from o steps realm (suc n) = start_at_end o steps realm ∷ starts_from o steps (realm + 1) n

abbrev pub starts_at_end : HubOpening → List (List PlainStep) → List Start
starts_at_end o steps = starts_from o steps 0 (length o.config.realms)

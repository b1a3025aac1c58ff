-- At which moment a shard is ticked (ours): a tick has a moment of its own, so what is due can be worked off by several,
-- each at a moment at which a part of it is due.
use Rattle.std.specs.Prelude.{◌≡◌, ◌⊎◌, ℕ, ◌+◌, ◌-◌, ◌<◌, ◌≤◌, List}
use Rattle.roam_realm.specs.RealmState.{RealmState}
use Rattle.roam_shard.specs.Turns.{NothingDue}
use Rattle.roam_shard.specs.DueCount.{due_count}

-- at most 64 entries are due at it; or no moment before it has any, for entries of one millisecond can't be parted; or
-- it is now, and something was due a tenth of a second ago already
abbrev pub IsPortion : ℕ → List RealmState → ℕ → Type 0
IsPortion now states moment =
    (due_count moment states ≤ 64)
    ⊎ (NothingDue (moment - 1) states ⊎ ((moment ≡ now) × (NothingDue (now - 100) states → ⊥)))

-- ## Moment of a tick
-- Something is due at it, it isn't past now nor more than 100 milliseconds before, and at most 64 entries are due at it.
-- They may be more where no moment before it has any, since entries of one millisecond can't be parted; and where it is
-- now, and something was due 100 milliseconds ago already.
-- Source: ours
-- Rules out: a shard's lock that is held while thousands of entries are worked off; a request that is sent again and
-- again in one round, at moments of long ago
-- Stands in: `roam_history` `Moments.antt`: `IsTickMoment`, `IsPortion`; `roam_shard` `DueCount.antt`: `due_count`;
-- `moment_of_tick`
--
-- something is due at it, and it isn't past now, nor long before
pub record IsTickMoment (now : ℕ) (states : List RealmState) (moment : ℕ) : Type 0 where
  pub before : moment ≤ now
  pub soon : now ≤ moment + 100
  pub due : NothingDue moment states → ⊥
  pub portion : IsPortion now states moment

-- few entries are due at a moment, and some at a later one: a word of private functions alone
pub record AreMoments (states : List RealmState) (few many : ℕ) : Type 0 where
  pub few_are : (due_count few states ≤ 64) ⊎ NothingDue few states
  pub some_are : NothingDue many states → ⊥
  pub order : few < many

-- The part of a hub's realms in a sessions' file (ours).
use Rattle.std.specs.Prelude.{◌≡◌, ◌⊎◌, ℕ, ◌%◌, List}
use mathlib.Core.List.{IsPrefix}
use Rattle.roam_realm.specs.RealmConfig.{realm_config}
use Rattle.roam_realm.specs.Written.{GainsOpen, GainsRealm}
use Rattle.roam_core.specs.ManyRealms.{state_at}
use Rattle.roam_shard.specs.History.{IsHistory, end_of}
use Rattle.roam_history.specs.Entries.{HistoryEntry, steps_in}
use Rattle.roam_history.specs.HubOpening.{HubOpening, opening_at}
use Rattle.roam_history.specs.Seats.{SeatView, front_of}

-- ## Ledgers that are written while a hub answers
-- Each session that is written is open in its realm where the history of its shard ended when it was written: no
-- earlier than a seat has seen it. Nothing else is written; that none is missing isn't said.
-- Source: ours
-- Rules out: a session of another realm, or one that was never open
-- Stands in: `roam_history` `Written.antt`: `SavesThen`; `roam_realm` `Written.antt`: `GainsOpen`; `Hub::save`
--
-- sessions are written, each of which is open in the realm's state there
pub record SavesIn (o : HubOpening) (shard index : ℕ) (seat : SeatView) (old new : List ℕ) : Type 0 where
  pub entries : List HistoryEntry
  pub begins : IsPrefix (front_of seat shard) entries
  pub history : IsHistory (opening_at o shard) (steps_in entries)
  pub writes : GainsOpen (realm_config o.config index)
      (state_at (end_of (opening_at o shard) (steps_in entries)) index).sessions old new

-- nothing is written where the lock holds another shard's history
abbrev pub SavesOrNothing : HubOpening → ℕ → ℕ → SeatView → List ℕ → List ℕ → Type 0
SavesOrNothing o shard index seat old new = (new ≡ old) ⊎ SavesIn o shard index seat old new

abbrev pub SavesThen : HubOpening → ℕ → SeatView → List ℕ → List ℕ → Type 0
SavesThen o index seat old new = SavesOrNothing o (index % o.config.shards) index seat old new

-- the name of the realm is written, or nothing
abbrev pub BeginsRealm : HubOpening → ℕ → List ℕ → List ℕ → Type 0
BeginsRealm o index old new = (new ≡ old) ⊎ GainsRealm (realm_config o.config index) old new

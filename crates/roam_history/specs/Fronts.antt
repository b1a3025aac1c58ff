-- Beginnings of a shard's one history that were seen (ours).
use Rattle.std.specs.Prelude.{◌≡◌, ℕ, List, Some, map, slice_get}
use Rattle.roam_history.specs.Entries.{HistoryEntry, IsWhole}

-- of which shard, and which entries
pub record FrontView : Type 0 where
  pub shard : ℕ
  pub entries : List HistoryEntry

-- each stands at the place of its own shard
abbrev pub AreOfShards : List FrontView → Type 0
AreOfShards fronts = (k : ℕ) (f : FrontView) → slice_get fronts k ≡ Some f → f.shard ≡ k

-- each is a whole history
abbrev pub AreWhole : List FrontView → Type 0
AreWhole fronts = (k : ℕ) (f : FrontView) → slice_get fronts k ≡ Some f → IsWhole f.entries

-- the entries of each
abbrev pub entries_of : List FrontView → List (List HistoryEntry)
entries_of fronts = map (λ f. f.entries) fronts

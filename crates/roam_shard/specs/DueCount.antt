-- The number of a shard's entries that are due (ours).
use Rattle.std.specs.Prelude.{ℕ, ◌+◌, List, [], ◌∷◌, length}
use Rattle.roam_pending.specs.DueOrder.{due_list}
use Rattle.roam_realm.specs.RealmState.{RealmState}

-- in all its realms
abbrev pub due_count : ℕ → List RealmState → ℕ
due_count now [] = 0
due_count now (s ∷ ss) = length (due_list now s.entries) + due_count now ss

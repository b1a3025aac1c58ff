-- The losses of a realm by a change, counted as the code counts it (ours).
use Rattle.std.specs.Prelude.{ℕ, ◌+◌, ◌-◌, ◌&&◌, not, nat_lt, Bool, List, filter, is_some, length, min, if◌then◌else◌}
use Rattle.roam_conf.specs.Config.{PeerView}
use Rattle.roam_pending.specs.PlainEntry.{PlainEntry, is_done}
use Rattle.roam_reload.specs.Kept.{keeps_sessions, of_peer, same_sessions}
use Rattle.roam_sessions.specs.Sessions.{Session, count_of_peer}
use Rattle.roam_realm.specs.RealmConfig.{RealmConfig}
use Rattle.roam_migrate.specs.Losses.{count_held}
use Rattle.roam_migrate.specs.Reload.{entry_then}

abbrev pub one_if : Bool → ℕ
one_if b = if b then 1 else 0

abbrev pub counted : {X : Type 0} → (X → Bool) → List X → ℕ
counted test xs = length (filter test xs)

-- an entry goes by its ends: one that waits, one that was answered
abbrev pub waits_and_goes : RealmConfig → RealmConfig → PlainEntry → Bool
waits_and_goes old new e = not (is_some (entry_then old new e)) && not (is_done e)

abbrev pub held_and_goes : RealmConfig → RealmConfig → PlainEntry → Bool
held_and_goes old new e = not (is_some (entry_then old new e)) && is_done e

-- the held ones that go, where so many go by their ends
abbrev pub held_lost : RealmConfig → RealmConfig → List PlainEntry → ℕ → ℕ → ℕ
held_lost old new es waiting held =
    if nat_lt new.realm.max_pending old.realm.max_pending
    then held + min (length es - waiting - held - new.realm.max_pending) (count_held es - held)
    else held

-- a session goes with its peer; how many go with one
abbrev pub is_of_gone : List PeerView → List PeerView → Session → Bool
is_of_gone old new s = not (of_peer keeps_sessions old new s.peer)

abbrev pub of_one_peer : List PeerView → List PeerView → List Session → ℕ → ℕ
of_one_peer old new ss peer = if of_peer keeps_sessions old new peer then 0 else count_of_peer peer ss

-- the sessions that go
abbrev pub newest_lost : RealmConfig → RealmConfig → ℕ → ℕ → ℕ
newest_lost old new all gone =
    if nat_lt new.realm.max_sessions old.realm.max_sessions
    then gone + (all - gone - new.realm.max_sessions)
    else gone

abbrev pub sessions_lost : RealmConfig → RealmConfig → List Session → ℕ
sessions_lost old new ss =
    if same_sessions old.realm new.realm
    then newest_lost old new (length ss) (counted (is_of_gone old.peers new.peers) ss)
    else length ss

-- The part of a sessions' file that a shard takes up (ours).
use Rattle.std.specs.Prelude.{ℕ, ◌+◌, ◌==◌, ◌&&◌, not, Bool, true, false, List, [], ◌∷◌, Option, if◌then◌else◌}
use Rattle.std.specs.Option.{option_map_or}
use Rattle.std.specs.Str.{str_eq_ignore_ascii_case}
use Rattle.roam_conf.specs.Config.{ConfigView}
use Rattle.roam_conf.specs.Lookup.{first_place}
use Rattle.roam_sessions.specs.Ledgers.{SavedItem, SavedSession, realm, session}
use Rattle.roam_reload.specs.Kept.{same_values}
use Rattle.roam_realm.specs.RealmConfig.{realm_config}
use Rattle.roam_realm.specs.RealmState.{RealmState}
use Rattle.roam_realm.specs.Saving.{taken_up}
use Rattle.roam_core.specs.Events.{is_in_shard}

-- the index of the realm that is here and has a name, without ASCII case
abbrev pub index_of_name : ConfigView → List ℕ → Option ℕ
index_of_name config name =
    first_place (λ r. not r.gone && str_eq_ignore_ascii_case r.name name) config.realms

-- the realm of an index has this name, and tells its sessions so
abbrev pub is_named : ConfigView → ℕ → List ℕ → Bool → Bool
is_named config index name own =
    option_map_or (λ place. index == place) (index_of_name config name) false
    && same_values own (realm_config config index).realm.own_sessions

-- the sessions that stand behind realms which pass a test, in their order; at first behind one that does, or doesn't
abbrev pub sessions_behind : (List ℕ → Bool → Bool) → Bool → List SavedItem → List SavedSession
sessions_behind passes here [] = []
sessions_behind passes here (realm name own ∷ more) = sessions_behind passes (passes name own) more
sessions_behind passes true (session s ∷ more) = s ∷ sessions_behind passes true more
sessions_behind passes false (session s ∷ more) = sessions_behind passes false more

-- what a file has of the realm of an index
abbrev pub saved_of : ConfigView → List SavedItem → ℕ → List SavedSession
saved_of config items index = sessions_behind (is_named config index) false items

-- a realm takes up sessions that were saved, and stays in all else
abbrev pub with_saved : ConfigView → ℕ → List SavedSession → RealmState → RealmState
with_saved config index saved s = record s { sessions = taken_up (realm_config config index) saved s.sessions }

-- each of the shard's own realms does, from the realm of this index on
abbrev pub with_saved_from : ConfigView → ℕ → (ℕ → List SavedSession) → ℕ → List RealmState → List RealmState
with_saved_from config shard saved index [] = []
with_saved_from config shard saved index (s ∷ ss) =
    (if is_in_shard config shard index then with_saved config index (saved index) s else s)
    ∷ with_saved_from config shard saved (index + 1) ss

-- ## Sessions that a shard takes up
-- Each of a shard's own realms takes up the sessions that a file of ledgers has behind the realm's name, without ASCII
-- case, if it told them then as it tells them now: in their order, one after the other. All else of it stays: it has
-- no entry by that, and draws no word.
-- Source: ours
-- Rules out: sessions of one realm in another's ledger; of a realm whose sessions were told by other names
-- Stands in: `roam_shard` `Restoring.antt`: `restored_states`, `saved_of`; `Paused::restore`
--
abbrev pub restored_states : ConfigView → ℕ → List SavedItem → List RealmState → List RealmState
restored_states config shard items states = with_saved_from config shard (saved_of config items) 0 states

-- one session is taken up, of the realm of an index
abbrev pub with_one : ConfigView → ℕ → ℕ → SavedSession → List RealmState → List RealmState
with_one config shard index one states =
    with_saved_from config shard (λ other. if other == index then one ∷ [] else []) 0 states

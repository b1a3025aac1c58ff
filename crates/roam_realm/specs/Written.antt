-- The part of a realm's session table that is written into a file (ours).
use Rattle.std.specs.Prelude.{◌≡◌, ℕ, List, ◌++◌, Some, Contains, map}
use Rattle.std.specs.List.{AllByRecursion, flat_map}
use Rattle.roam_sessions.specs.Ledgers.{SavedItem, SavedSession, item_text, realm, session}
use Rattle.roam_sessions.specs.Sessions.{Session}
use Rattle.roam_realm.specs.RealmConfig.{RealmConfig}
use Rattle.roam_realm.specs.Saving.{saved_session}

-- it is one of a ledger's sessions, by the name of its peer
abbrev pub IsOpenIn : RealmConfig → List Session → SavedSession → Type 0
IsOpenIn c ss saved = (one : Session) × Contains ss one × (saved_session c.peers one ≡ Some saved)

-- a file gains sessions, each of which is open in a ledger
pub record GainsOpen (c : RealmConfig) (ss : List Session) (old new : List ℕ) : Type 0 where
  pub sessions : List SavedSession
  pub each : AllByRecursion (IsOpenIn c ss) sessions
  pub written : new ≡ old ++ flat_map item_text (map session sessions)

-- a file gains the name of a realm, behind which its sessions follow
abbrev pub GainsRealm : RealmConfig → List ℕ → List ℕ → Type 0
GainsRealm c old new = new ≡ old ++ item_text (realm c.realm.name c.realm.own_sessions)

-- a file of ledgers gains items
abbrev pub GainsItems : List ℕ → List ℕ → Type 0
GainsItems old new = (items : List SavedItem) × (new ≡ old ++ flat_map item_text items)

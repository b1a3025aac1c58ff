-- The parts at hand when a realm goes on under another part of a configuration: words of private functions alone
-- (ours).
use Rattle.std.specs.Prelude.{◌≡◌, ◌⊎◌, ◌||◌, Bool, true, false, ℕ, ◌<◌, ◌≤◌, List, [], ◌∷◌, ◌++◌, if◌then◌else◌, length, Option, Some, None, is_some, vec_capacity}
use Rattle.std.specs.List.{AllByRecursion}
use Rattle.roam_conf.specs.Config.{PeerView, RealmView, ServerView}
use Rattle.roam_conf.specs.Duplicates.{has_pair_of_servers}
use Rattle.roam_pending.specs.ListLaws.{IsIn}
use Rattle.roam_reload.specs.Kept.{same_outs, same_servers}
use Rattle.roam_reload.specs.Reload.{IsKeptAt, KeepsPeers, realm_part}
use Rattle.roam_realm.specs.RealmConfig.{RealmConfig, link_count}
use Rattle.roam_realm.specs.Rests.{all_awake}
use Rattle.roam_realm.specs.declared.realm_numbers.RealmNumbers.{RealmNumbers}
use Rattle.roam_migrate.specs.Private.Moving.{AreFresh}
use Rattle.roam_migrate.specs.Losses.{LossView}
use Rattle.roam_migrate.specs.declared.lanes.FreshLanes.{FreshLanes}
use Rattle.roam_migrate.specs.declared.losses.Loss.{Loss}

-- what holds where it isn't told otherwise
abbrev pub Unless : Bool → Type 0 → Type 0
Unless true P = Unit {0}
Unless false P = P

-- numbers, and one more where it counts
abbrev pub noted : List ℕ → ℕ → Bool → List ℕ
noted numbers number counts = if counts then numbers ++ number ∷ [] else numbers

-- each is less than all that stand behind it
abbrev pub AreRising : List ℕ → Type 0
AreRising [] = Unit {0}
AreRising (n ∷ ns) = AllByRecursion (λ m. n < m) ns × AreRising ns

-- an old peer's table is the one that it was, in the part on which packets depend and in its prefixes, or its index is
-- one of these, which rise
pub record AreChanged (old new : List PeerView) (changed : List ℕ) : Type 0 where
  pub told :
      (peer : ℕ) → peer < length old
      → IsIn peer changed ⊎ IsKeptAt old new peer
  pub rising : AreRising changed

-- neither a realm's table nor any peer's is another one, as far as packets depend on them, and no peer is new
pub record StandsAsItIs (old new : RealmConfig) : Type 0 where
  pub table : realm_part new.realm ≡ realm_part old.realm
  pub peers : KeepsPeers old.peers new.peers
  pub count : length new.peers ≡ length old.peers

-- a server takes requests of one service at least
abbrev pub Serves : ServerView → Type 0
Serves server = is_some server.auth || is_some server.acct ≡ true

-- each server of a realm has an endpoint, and no two are at one
pub record AreDistinct (realm : RealmView) : Type 0 where
  pub once : has_pair_of_servers realm ≡ false
  pub serve : AllByRecursion Serves realm.servers

-- the servers of both parts are distinct: so each has one place in the other part, if any
abbrev pub HaveDistinctServers : RealmConfig → RealmConfig → Type 0
HaveDistinctServers old new = AreDistinct old.realm × AreDistinct new.realm

-- each server and each `out` stands where it stood, and no peer's place is gone
pub record StandAsBefore (old new : RealmConfig) : Type 0 where
  pub out : same_outs old.realm new.realm ≡ true
  pub servers : same_servers old.realm.servers new.realm.servers ≡ true
  pub peers : length old.peers ≤ length new.peers

-- the memory is there: of further lanes, where each link stands where it stood; else of all
abbrev pub IsReadyToCarry : {A : Type 0} → RealmConfig → RealmConfig → RealmNumbers A → Option (FreshLanes A) → Type 0
IsReadyToCarry old new numbers None =
    (link_count new ≤ vec_capacity numbers.lanes) × StandAsBefore old new
IsReadyToCarry old new numbers (Some fresh) =
    AreFresh new fresh.lanes.items × (fresh.rests.items ≡ all_awake new)

-- what is counted of losses
abbrev pub shown_loss : Loss → LossView
shown_loss loss = record { waiting = loss.waiting; held = loss.held; sessions = loss.sessions }

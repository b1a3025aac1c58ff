-- The numbers of a shard's realms when it begins: words of private functions alone (ours).
use Rattle.std.specs.Prelude.{◌≡◌, ℕ, Bool, List, [], Option, Some, is_some, IfSome, length, replicate, slice_get}
use Rattle.roam_conf.specs.Config.{ConfigView}
use Rattle.roam_realm.specs.RealmConfig.{RealmConfig, link_count, realm_config}
use Rattle.roam_realm.specs.Rests.{all_awake}
use Rattle.roam_realm.specs.Sound.{AreOwnLanes, LanesTell, cursors_of, marks_of}
use Rattle.roam_realm.specs.declared.realm_numbers.RealmNumbers.{RealmNumbers}
use Rattle.roam_realm.specs.declared.start.Start.{Start}
use Rattle.roam_core.specs.Events.{is_in_shard}
use Rattle.roam_core.specs.Openings.{start_of}

-- nothing is in use yet, and the place and the next ticket are those of the start
pub record IsFresh {A : Type 0} (c : RealmConfig) (start : Start) (n : RealmNumbers A) : Type 0 where
  pub count : length n.lanes.items ≡ link_count c
  pub cursors : cursors_of n.lanes.items ≡ replicate (link_count c) 0
  pub free : LanesTell c [] n.lanes.items
  pub lanes : AreOwnLanes c (marks_of n.lanes.items)
  pub ticket : n.ticket ≡ start.ticket
  pub place : n.stream_position ≡ start.place
  pub sessions : n.sessions.sessions ≡ []
  pub rests : n.rests.items ≡ all_awake c
  pub ledger : n.sessions.limit ≡ c.realm.max_sessions

-- such numbers, where the realm is one of the shard's own, else none
pub record IsOpened {A : Type 0} (c : RealmConfig) (start : Start) (takes_part : Bool)
    (n : Option (RealmNumbers A)) : Type 0 where
  pub own : is_some n ≡ takes_part
  pub fresh : IfSome n (λ m. IsFresh c start m)

-- the numbers of the first realms
pub record AreOpened {A : Type 0} (config : ConfigView) (shard : ℕ) (starts : List Start) (count : ℕ)
    (numbers : List (Option (RealmNumbers A))) : Type 0 where
  pub number : length numbers ≡ count
  pub each : (k : ℕ) (n : Option (RealmNumbers A)) → slice_get numbers k ≡ Some n
      → IsOpened (realm_config config k) (start_of starts k) (is_in_shard config shard k) n

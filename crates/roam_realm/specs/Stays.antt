-- The part that stays of what a realm keeps besides its entries, where one thing of it changes (ours).
use Rattle.std.specs.Prelude.{◌≡◌, List, [], length, replicate, vec_capacity, Option, Some, None}
use Rattle.roam_realm.specs.RealmConfig.{RealmConfig, link_count}
use Rattle.roam_realm.specs.Rests.{all_awake}
use Rattle.roam_realm.specs.Sound.{AreOwnLanes, LanesTell, cursors_of, marks_of}
use Rattle.roam_realm.specs.declared.realm_numbers.RealmNumbers.{RealmNumbers}
use Rattle.roam_realm.specs.declared.rest.Rest.{Rest}
use Rattle.roam_realm.specs.declared.start.Start.{Start}
use Rattle.roam_sessions.specs.Sessions.{LedgerChange, Session, changed}
use Rattle.roam_sessions.specs.ShownSessions.{HasRoomFor, Ledger}

-- nothing is in use yet, no session is open, all servers are awake, and the place and the next ticket
-- are the start's
pub record IsStarted {A : Type 0} (c : RealmConfig) (start : Start) (n : RealmNumbers A) : Type 0 where
  pub count : length n.lanes.items ≡ link_count c
  pub cursors : cursors_of n.lanes.items ≡ replicate (link_count c) 0
  pub free : LanesTell c [] n.lanes.items
  pub lanes : AreOwnLanes c (marks_of n.lanes.items)
  pub ticket : n.ticket ≡ start.ticket
  pub place : n.stream_position ≡ start.place
  pub sessions : n.sessions.sessions ≡ []
  pub rests : n.rests.items ≡ all_awake c
  pub ledger : n.sessions.limit ≡ c.realm.max_sessions

-- the rests are now these, and all else is as it was
pub record RestsBecome {A : Type 0} (are : List Rest) (old new : RealmNumbers A) : Type 0 where
  pub rests : new.rests.items ≡ are
  pub lanes : new.lanes.items ≡ old.lanes.items
  pub ticket : new.ticket ≡ old.ticket
  pub stream_position : new.stream_position ≡ old.stream_position
  pub sessions : new.sessions ≡ old.sessions

-- the lanes are as many as before, with as much room, and all but them is as it was
pub record KeepsButLanes {A : Type 0} (old new : RealmNumbers A) : Type 0 where
  pub count : length new.lanes.items ≡ length old.lanes.items
  pub capacity : vec_capacity new.lanes ≡ vec_capacity old.lanes
  pub ticket : new.ticket ≡ old.ticket
  pub stream_position : new.stream_position ≡ old.stream_position
  pub rests : new.rests.items ≡ old.rests.items
  pub sessions : new.sessions ≡ old.sessions

-- the ledger's limit stands, and all but its sessions is as it was
pub record KeepsButSessions {A : Type 0} (old new : RealmNumbers A) : Type 0 where
  pub limit : new.sessions.limit ≡ old.sessions.limit
  pub lanes : new.lanes.items ≡ old.lanes.items
  pub ticket : new.ticket ≡ old.ticket
  pub stream_position : new.stream_position ≡ old.stream_position
  pub rests : new.rests.items ≡ old.rests.items

-- the ledger has room for a change that was prepared, if one was, which then makes these sessions of
-- its own
abbrev pub IsPrepared : Ledger → Option LedgerChange → List Session → Type 0
IsPrepared ledger None sessions = sessions ≡ ledger.sessions
IsPrepared ledger (Some change) sessions =
    HasRoomFor change ledger × (sessions ≡ changed ledger.limit change ledger.sessions)

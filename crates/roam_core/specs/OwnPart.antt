-- The part of a configuration that decides what a realm sends (ours): its own entry, the peers, at how many `auth` and
-- `acct` these ask, which names mean it, the limits of attributes, hops and a reverse request's age, the seed and the
-- number of shards. What it says of other realms isn't looked at, nor which they are.
use Rattle.std.specs.Prelude.{◌≡◌, ◌<◌, ◌≤◌, ℕ, List, length, slice_get}
use Rattle.roam_conf.specs.Config.{ConfigView}
use Rattle.roam_conf.specs.Lookup.{realm_named}
use Rattle.roam_admission.specs.OwnPart.{HaveSamePart}
use Rattle.roam_realm.specs.declared.start.Start.{Start}
use Rattle.roam_core.specs.Events.{PlainEvent, events_of_realm}
use Rattle.roam_core.specs.Isolation.{is_realm, packets_for}
use Rattle.roam_core.specs.ManyRealms.{answers_to}
use Rattle.roam_core.specs.Openings.{openings, start_of}

-- ## Own part of a configuration
-- For what a realm sends: how many `auth` and `acct` there are, the peers, which names mean it, `max_attributes`,
-- `max_hops`, `fresh`, its own table, the seed and the number of shards. Of another realm nothing is looked at, not
-- even which there are: of each name only whether it means this realm. So other realms may be added, removed and
-- renamed, and one broker of N realms is, realm by realm, N brokers. (A realm with a suffix or with `*` takes the names
-- that a removed realm leaves: then a name means it that didn't, and the two don't agree for it.) For what one arrival
-- gives to the realm, octet for octet with the realm that a request names: how many `auth` and `acct` there are, the
-- peers, what each name means, `max_attributes`, `max_hops`, `fresh` and the realm's own table. For the broker's own
-- answers: how many `auth` and `acct` there are, the peers, what each name means, `max_attributes`, `max_hops`,
-- `status_server`, `answer_unnamed`, and of each realm which peers may ask it and what becomes of its accounting.
-- Source: ours
-- Rules out: another realm's server, secret, socket, name or being there that takes a realm's arrivals away or
-- changes its packets, or decides whether the broker answers itself
-- Stands in: `roam_core` `OwnPart.antt`: `MeanAlike`, `AgreeFor`, `SamePacketsOfOwnPart`, `SameOwnEvents`;
-- `roam_admission` `OwnPart.antt`: `HaveSamePart`, `AnswerAlike`; the laws `own_part`, `own_answers`
--
-- of each name two configurations alike say whether it means a realm. Which other realm it means, or whether any,
-- they may say differently: other realms may be added, removed and renamed
abbrev pub MeanAlike : ConfigView → ConfigView → ℕ → Type 0
MeanAlike one other realm =
    (name : List ℕ)
    → is_realm realm (realm_named one name) ≡ is_realm realm (realm_named other name)

-- two configurations agree for a realm: what an arrival gives to it, its random words, and its ticks
pub record AgreeFor (one other : ConfigView) (realm : ℕ) : Type 0 where
  pub auth : length one.auth ≡ length other.auth
  pub acct : length one.acct ≡ length other.acct
  pub peers : one.peers ≡ other.peers
  pub names : MeanAlike one other realm
  pub max_attributes : one.max_attributes ≡ other.max_attributes
  pub max_hops : one.max_hops ≡ other.max_hops
  pub fresh : one.fresh ≡ other.fresh
  pub entry : slice_get one.realms realm ≡ slice_get other.realms realm
  pub seed : one.seed ≡ other.seed
  pub shards : one.shards ≡ other.shards

-- then it sends the same packets for any list of events, begun at the same start: no other realm's
-- configuration changes them. So one broker of some realms is, realm by realm, as many brokers of one
abbrev pub SamePacketsOfOwnPart : Type 0
SamePacketsOfOwnPart =
    (one other : ConfigView) (realm : ℕ) (ss ts : List Start) (events : List PlainEvent)
    → 1 ≤ one.shards → realm < length ss → realm < length ts → AgreeFor one other realm
    → start_of ss realm ≡ start_of ts realm
    → packets_for realm (answers_to one (openings one ss) events).packets
    ≡ packets_for realm (answers_to other (openings other ts) events).packets

-- where each name means the same realm in both, any list of events gives the same events to the realm too,
-- whatever the seeds: else a reverse request of it may differ in which other realm its User-Name names
abbrev pub SameOwnEvents : Type 0
SameOwnEvents =
    (one other : ConfigView) (realm : ℕ) (events : List PlainEvent)
    → HaveSamePart one other realm → one.shards ≡ other.shards
    → events_of_realm one realm events ≡ events_of_realm other realm events

-- The result of an arrival for one realm. Ours.
use Rattle.std.specs.Prelude.{◌≡◌, ℕ, ◌==◌, List, length, Option, Some, None, slice_get, if◌then◌else◌}
use Rattle.roam_conf.specs.Asking.{takes_in}
use Rattle.roam_conf.specs.Config.{ConfigView}
use Rattle.roam_conf.specs.Lookup.{realm_named}
use Rattle.roam_admission.specs.Admission.{Arrival, PlainJob, PlainOut, Admission, accounting_in, refused, answered_here, admitted, admission}

-- what an admission gives to the realm of an index
abbrev pub own : ℕ → Admission → Option PlainJob
own realm (refused why) = None
own realm (answered_here what out) = None
own realm (admitted job) = if job.realm == realm then Some job else None

-- two configurations have as many `auth` and `acct`, the same peers, the same meaning of each name, the same limits of
-- attributes, of hops and of a reverse request's age, and the same entry for a realm: its part of the configuration
pub record HaveSamePart (one other : ConfigView) (realm : ℕ) : Type 0 where
  pub auth : length one.auth ≡ length other.auth
  pub acct : length one.acct ≡ length other.acct
  pub peers : one.peers ≡ other.peers
  pub names : (name : List ℕ) → realm_named one name ≡ realm_named other name
  pub max_attributes : one.max_attributes ≡ other.max_attributes
  pub max_hops : one.max_hops ≡ other.max_hops
  pub fresh : one.fresh ≡ other.fresh
  pub entry : slice_get one.realms realm ≡ slice_get other.realms realm

-- what an arrival gives to a realm is decided by that part: no other realm's sockets, servers, secrets or
-- limits, and no other key, are looked at
abbrev pub OwnPartDecides : Type 0
OwnPartDecides = (one other : ConfigView) (realm : ℕ) (a : Arrival) →
    HaveSamePart one other realm →
    own realm (admission one a) ≡ own realm (admission other a)

-- what the broker answers itself, if it does
abbrev pub answered : Admission → Option PlainOut
answered (refused why) = None
answered (answered_here what out) = Some out
answered (admitted job) = None

-- two configurations have as many `auth` and `acct`, the same peers, the same meaning of each name, the same limits of
-- attributes and hops, and both have Status-Servers answered, or neither, and unnamed accounting; of each realm the
-- same peers may ask, and its accounting becomes the same: what the broker's own answers are made by
pub record AnswerAlike (one other : ConfigView) : Type 0 where
  pub auth : length one.auth ≡ length other.auth
  pub acct : length one.acct ≡ length other.acct
  pub peers : one.peers ≡ other.peers
  pub names : (name : List ℕ) → realm_named one name ≡ realm_named other name
  pub max_attributes : one.max_attributes ≡ other.max_attributes
  pub max_hops : one.max_hops ≡ other.max_hops
  pub status_server : one.status_server ≡ other.status_server
  pub answer_unnamed : one.answer_unnamed ≡ other.answer_unnamed
  pub takes : (realm peer : ℕ) → takes_in one realm peer ≡ takes_in other realm peer
  pub accounting : (realm : ℕ) → accounting_in one realm ≡ accounting_in other realm

-- which arrivals they answer themselves, and with which packets, is the same: no realm's sockets, secrets or limits
-- are looked at, and of its servers only whether a peer is at the address of one
abbrev pub OwnAnswersDecided : Type 0
OwnAnswersDecided = (one other : ConfigView) (a : Arrival) → AnswerAlike one other →
    answered (admission one a) ≡ answered (admission other a)

-- The events that a configuration gives to its realms. Ours.
use Rattle.std.specs.Prelude.{◌≡◌, ℕ, ◌<◌, false, true, length, Option, None}
use Rattle.roam_wire.specs.Packet.{AreOctets, Packet, packet_length}
use Rattle.roam_wire.specs.Reading.{IsPacketText, packet_of}
use Rattle.roam_conf.specs.Config.{ConfigView}
use Rattle.roam_conf.specs.Lookup.{IsLinkIn, homes_in}
use Rattle.roam_forward.specs.Forwarded.{CanBeForwarded}
use Rattle.roam_forward.specs.Shaped.{CanBeShaped}
use Rattle.roam_conf.specs.declared.place.Place.TheVariants as place
use Rattle.roam_admission.specs.declared.job.Prepared.{Prepared}
use Rattle.roam_admission.specs.declared.job.Prepared.TheVariants as prepared
use Rattle.roam_admission.specs.declared.job.Side.{Side}
use Rattle.roam_admission.specs.declared.job.Side.TheVariants as side
use Rattle.roam_admission.specs.Admission.{Arrival, PlainJob, admitted, answered_here, admission, is_taken}
use Rattle.roam_admission.specs.Shapings.{shaping_of}
use Rattle.roam_admission.specs.Shown.{shown_job, shown_out}
use Rattle.roam_admission.specs.UserName.{realm_of}

-- the arrival of a job's own octets, from its source at its place, with no wall clock: what was admitted isn't stale;
-- its session is kept where the job's is
abbrev pub arrival_of : PlainJob → Arrival
arrival_of job =
    record {
      at = job.place;
      from = job.from;
      octets = job.octets;
      seconds = None;
      keeps_session = job.keeps_session;
    }

-- ## Event of a realm
-- A job is an event of a configuration where the arrival of its own octets is admitted as just this job. Then,
-- where its numbers are octets, they are one packet's, its realm and its sender are configured, its code is
-- taken there from that sender, and what is a request can be forwarded.
-- Source: ours
-- Rules out: a job made up from nothing; padding in a job; a realm whose rules get what they can't take
-- Stands in: `roam_admission` `Events.antt`: `IsEvent`, `IsSoundEvent`, `IsPrepared`; `prepare`, the law `events`.
-- `roam_rules` `BookView.antt`: `IsTakenFrom`; the law `events`
--
-- a job is an event of this configuration where the arrival of its own octets is admitted as just this
-- job
abbrev pub IsEvent : ConfigView → PlainJob → Type 0
IsEvent config job = admission config (arrival_of job) ≡ admitted job

-- what is prepared of an arrival: such a job, or the local answer of just this arrival
abbrev pub IsPrepared : {A : Type 0} → ConfigView → Arrival → Prepared A → Type 0
IsPrepared config a (prepared.Job j) = IsEvent config (shown_job j)
IsPrepared config a (prepared.Answered what out) =
    admission config a ≡ answered_here what (shown_out out)

-- who sent a packet of a realm is configured, so it shares a secret with the broker (RFC 2865,
-- section 3)
abbrev pub IsConfigured : ConfigView → ℕ → Side → Type 0
IsConfigured config realm (side.Peer i) = i < length config.peers
IsConfigured config realm (side.Link l) = IsLinkIn config realm l
IsConfigured config realm (side.Home i) = i < homes_in config realm

-- a request can be forwarded, a peer's as it is shaped for the realm; a reply comes from a link
abbrev pub IsForwardable : ConfigView → ℕ → Side → Packet → Type 0
IsForwardable config realm (side.Peer i) p = CanBeShaped (shaping_of config i realm) p
IsForwardable config realm (side.Link l) p = Unit {0}
IsForwardable config realm (side.Home i) p = CanBeForwarded p

-- the realm that is named is the one which the first User-Name of a request gives; a reply names none
abbrev pub IsNamed : ConfigView → Side → Packet → Option ℕ → Type 0
IsNamed config (side.Peer i) p named = named ≡ realm_of config p.attributes
IsNamed config (side.Link l) p named = named ≡ None
IsNamed config (side.Home i) p named = named ≡ realm_of config p.attributes

-- an event of a realm: octets that are one packet's, of a code that is taken from its sender, who
-- is configured; what is a request can be forwarded, and says which realm it names
pub record IsSoundEvent (config : ConfigView) (job : PlainJob) : Type 0 where
  pub packet : IsPacketText job.octets
  pub size : packet_length (packet_of job.octets) ≡ length job.octets
  pub code : is_taken job.place job.side (packet_of job.octets).code ≡ true
  pub sender : IsConfigured config job.realm job.side
  pub forwardable : IsForwardable config job.realm job.side (packet_of job.octets)
  pub named : IsNamed config job.side (packet_of job.octets) job.named

-- the realm of an event is configured
abbrev pub EventHasRealm : Type 0
EventHasRealm = (config : ConfigView) (job : PlainJob) → IsEvent config job →
    job.realm < length config.realms

-- an event whose numbers are octets is sound
abbrev pub EventIsSound : Type 0
EventIsSound = (config : ConfigView) (job : PlainJob) → AreOctets job.octets → IsEvent config job →
    IsSoundEvent config job

-- a job without the session that a reply opens, changes or ends
abbrev pub without_session : PlainJob → PlainJob
without_session job = record job { keeps_session = false }

-- where what came from a link is an event, it is one without its session too
abbrev pub EventWithoutSession : Type 0
EventWithoutSession = (config : ConfigView) (job : PlainJob) (realm nth : ℕ) → job.place ≡ place.Out realm nth →
    IsEvent config job → IsEvent config (without_session job)

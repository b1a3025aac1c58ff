-- What is prepared of an arrival, and what holds of each event.
use Rattle.std.proofs.Common.{◌≡◌, ◌<◌, ℕ, Bool, false, true, List, [], length, drop, Option, Some, None, IsSome, inl, inr, refl, sym, ap, subst, ◌∙◌, arith}
use Rattle.std.specs.Prelude.{Result, Ok, Err, IfOk, nat_lt}
use Rattle.std.specs.Option.{option_map_or}
use Rattle.std.proofs.lemmas.Bool.{cases_Bool}
use Rattle.std.proofs.lemmas.Bool.Decides.{nat_tests}
use Rattle.roam_wire.specs.Packet.{AreOctets, Attribute, Packet, IsPacket, packet_length, packet_text}
use Rattle.roam_wire.specs.Reading.{HasLength, IsPacketText, attributes_of, front_of, has_length, packet_of, reading}
use Rattle.roam_wire.specs.declared.refusal.Refusal.{Refusal}
use Rattle.roam_wire.specs.declared.refusal.Refusal.TheVariants as refusal
use Rattle.roam_wire.proofs.PacketLemmas.{IsPacketText-front, IsPacketText-packet_text, ReadsAs-packet_text, ReadsAs-follows, length-packet_text, packet_of-packet_text}
use Rattle.roam_wire.proofs.ReadingLemmas.{reading-ok}
use Rattle.roam_conf.specs.Config.{ConfigView}
use Rattle.roam_conf.specs.declared.place.Place.{Place}
use Rattle.roam_conf.specs.declared.place.Place.TheVariants as place
use Rattle.roam_admission.specs.Admission.{Arrival, PlainJob, admitted, job_of, refused, sender, sent_admission, read_admission, admission, is_taken}
use Rattle.roam_admission.specs.Events.{arrival_of, IsEvent, IsPrepared, IsForwardable, IsNamed, EventHasRealm, EventIsSound, EventWithoutSession, without_session}
use Rattle.roam_admission.specs.Shown.{IsAdmission, shown_job}
use Rattle.roam_admission.specs.declared.job.Prepared.{Prepared}
use Rattle.roam_admission.specs.declared.job.Prepared.TheVariants as prepared
use Rattle.roam_admission.specs.declared.job.Side.{Side}
use Rattle.roam_admission.specs.declared.job.Side.TheVariants as side
use Rattle.roam_admission.proofs.AdmitsLemmas.{Admits, IsAdmitted, without_padding}
use Rattle.roam_admission.proofs.FreshnessLemmas.{keeps-sent, without_clock}
use Rattle.roam_admission.proofs.SentLemmas.{sent_admits}

-- ---- what is prepared

-- a packet's octets read as that packet
reading-packet_text : (p : Packet) → IsPacket p → reading (packet_text p) ≡ Ok p
reading-packet_text p h =
    let reads = ReadsAs-packet_text p h in
    let follows = ReadsAs-follows (packet_text p) p reads in
    reading-ok (packet_text p) reads.has_header follows.length follows.attributes
    ∙ ap (λ (x : Packet). Ok x) follows.packet

-- the arrival without its padding gives the same, without a wall clock
same_without_padding : (config : ConfigView) (a : Arrival) (p : Packet) → IsPacket p
    → admission config (without_padding a p)
    ≡ sent_admission config (without_clock a) p (sender config a a.at)
unfolding admission
same_without_padding config a p packet =
    ap (read_admission config (without_padding a p)) (reading-packet_text p packet)

own_arrival : (config : ConfigView) (a : Arrival) (p : Packet) (job : PlainJob) → IsPacket p
    → sent_admission config a p (sender config a a.at) ≡ admitted job
    → IsEvent config job
unfolding Admits
own_arrival config a p job packet is =
    let all = sent_admits config a p (sender config a a.at) refl in
    let admits : Admits config a p (admitted job) = subst (Admits config a p) is all in
    ap (admission config) admits.arrival ∙ same_without_padding config a p packet
    ∙ keeps-sent config a p (sender config a a.at) job is

-- what the packet of an arrival gives, the arrival gives
same_as_sent : (config : ConfigView) (a : Arrival) (p : Packet) → reading a.octets ≡ Ok p
    → admission config a ≡ sent_admission config a p (sender config a a.at)
unfolding admission
same_as_sent config a p read = ap (read_admission config a) read

-- what is prepared of a packet whose sender is known
pub prepared_of_sent : {A : Type 0}
    → (config : ConfigView) (a : Arrival) (p : Packet) (s : Side) (r : Result (Prepared A) Refusal)
    → IsPacket p → reading a.octets ≡ Ok p → sender config a a.at ≡ Some s
    → IsAdmission r (sent_admission config a p (Some s)) → IfOk r (IsPrepared config a)
prepared_of_sent config a p s (Err why) packet read from answers = tt
prepared_of_sent config a p s (Ok (prepared.Job j)) packet read from answers =
    let sent = ap (sent_admission config a p) from in
    elim answers [
      | inl none ↦ absurd (cc none)
      | inr is ↦ own_arrival config a p (shown_job j) packet (sent ∙ sym is)
    ]
prepared_of_sent config a p s (Ok (prepared.Answered what out)) packet read from answers =
    let sent = ap (sent_admission config a p) from in
    elim answers [
      | inl none ↦ absurd (cc none)
      | inr is ↦ same_as_sent config a p read ∙ sent ∙ sym is
    ]

-- ---- laws

-- what is read is a packet
test_fits : (d : List ℕ) → has_length d ≡ true → HasLength d
test_fits d h = record {
  at_least_header = grind (arith, nat_tests, h);
  at_most_4096 = grind (arith, nat_tests, h);
  all_came = grind (arith, nat_tests, h);
}

-- the answer, whatever attributes there are
abbrev answer : Packet → List Attribute → Result Packet Refusal
answer p all = Ok p

some_answered : (o : Option (List Attribute)) (q p : Packet)
    → option_map_or (answer q) o (Err refusal.BadAttribute) ≡ Ok p → IsSome o × (q ≡ p)
some_answered None q p h = absurd (cc h)
some_answered (Some all) q p h = (refl, cc h)

pub read_packet : (d : List ℕ) (p : Packet) → AreOctets d → reading d ≡ Ok p → IsPacket p
unfolding reading
read_packet d p octets h =
    elim (cases_Bool (nat_lt (length d) 20)) [
      | inl short ↦ absurd (let k : Err refusal.Short ≡ Ok p = rw short at h in cc)
      | inr long ↦ elim (cases_Bool (has_length d)) [
        | inl fits ↦
            let q : Packet = packet_of (front_of d) in
            let all = attributes_of (drop 20 (front_of d)) in
            let k : option_map_or (answer q) all (Err refusal.BadAttribute) ≡ Ok p = rw (long, fits) at h in
            let some = some_answered all q p k in
            subst IsPacket some.1 (IsPacketText-front d octets (test_fits d fits) some.0).packet
        | inr bad ↦ absurd (let k : Err refusal.BadLength ≡ Ok p = rw (long, bad) at h in cc)
      ]
    ]

-- an event is of the packet that its octets read as
record IsOfPacket (config : ConfigView) (job : PlainJob) (read : Result Packet Refusal) : Type 0
  where
    packet : Packet
    reads : read ≡ Ok packet
    admitted : IsAdmitted config (arrival_of job) packet job

event_of_packet : (config : ConfigView) (job : PlainJob) (read : Result Packet Refusal)
    → read_admission config (arrival_of job) read ≡ admitted job
    → IsOfPacket config job read
unfolding Admits
event_of_packet config job (Err why) is = absurd (cc is)
event_of_packet config job (Ok p) is =
    let a : Arrival = arrival_of job in
    let all = sent_admits config a p (sender config a job.place) refl in
    record { packet = p; reads = refl; admitted = subst (Admits config a p) is all }

event_packet : (config : ConfigView) (job : PlainJob) → IsEvent config job
    → IsOfPacket config job (reading job.octets)
unfolding admission
event_packet config job is = event_of_packet config job (reading job.octets) is

-- whatever an arrival is admitted for is a configured realm
realm_of_read : (config : ConfigView) (a : Arrival) (job : PlainJob) (read : Result Packet Refusal)
    → read_admission config a read ≡ admitted job → job.realm < length config.realms
unfolding Admits
realm_of_read config a job (Err why) is = absurd (cc is)
realm_of_read config a job (Ok p) is =
    let all = sent_admits config a p (sender config a a.at) refl in
    let admits : Admits config a p (admitted job) = subst (Admits config a p) is all in
    admits.realm

pub admitted_realm : (config : ConfigView) (a : Arrival) (job : PlainJob)
    → admission config a ≡ admitted job → job.realm < length config.realms
unfolding admission
admitted_realm config a job is = realm_of_read config a job (reading a.octets) is

pub event_realm : EventHasRealm
event_realm config job is = (event_packet config job is).admitted.realm

pub event_sound : EventIsSound
event_sound config job octets is =
    let of = event_packet config job is in
    let p : Packet = of.packet in
    let h = of.admitted in
    let packet : IsPacket p = read_packet job.octets p octets of.reads in
    let text : job.octets ≡ packet_text p = ap (λ (a : Arrival). a.octets) h.arrival in
    let same : packet_of job.octets ≡ p = ap packet_of text ∙ packet_of-packet_text p packet in
    record {
      packet = subst IsPacketText (sym text) (IsPacketText-packet_text p packet);
      size = ap packet_length same ∙ sym (length-packet_text p packet) ∙ sym (ap length text);
      code = subst (λ (x : Packet). is_taken job.place job.side x.code ≡ true) (sym same) h.code;
      sender = h.sender;
      forwardable = subst (IsForwardable config job.realm job.side) (sym same) h.forwardable;
      named = subst (λ (x : Packet). IsNamed config job.side x job.named) (sym same) h.names;
    }

-- ---- without a session

-- the arrival of a job's octets at this place, whether its session is kept or not
abbrev came_at : PlainJob → Place → Bool → Arrival
came_at job at kept = record {
  at = at;
  from = job.from;
  octets = job.octets;
  seconds = None;
  keeps_session = kept;
}

-- the job that a packet from there gives
abbrev given_at : PlainJob → ℕ → ℕ → Side → Packet → PlainJob
given_at job k nth s p = record {
  realm = k;
  place = place.Out k nth;
  from = job.from;
  side = s;
  octets = packet_text p;
  named = None;
  keeps_session = job.keeps_session;
}

same_job : (one other : PlainJob) → admitted one ≡ admitted other → one ≡ other
same_job one other is = cc is

-- what a packet gives that came at an `out`, it gives without its session too
unkept_sent : (config : ConfigView) (job : PlainJob) (k nth : ℕ) (p : Packet) (o : Option Side)
    → sent_admission config (came_at job (place.Out k nth) job.keeps_session) p o ≡ admitted job
    → sent_admission config (came_at job (place.Out k nth) false) p o ≡ admitted (without_session job)
unkept_sent config job k nth p None is = absurd (cc is)
unkept_sent config job k nth p (Some s) is =
    elim (cases_Bool (is_taken (place.Out k nth) s p.code)) [
      | inl taken ↦
          let given : job_of (came_at job (place.Out k nth) job.keeps_session) s p k None ≡ admitted job =
          rw taken at is in
          let unkept : admitted (without_session (given_at job k nth s p)) ≡ admitted (without_session job) =
          ap (λ (j : PlainJob). admitted (without_session j)) (same_job (given_at job k nth s p) job given) in
          rw taken unkept
      | inr isnt ↦ absurd (let k : refused refusal.WrongCode ≡ admitted job = rw isnt at is in cc k)
    ]

unkept_read : (config : ConfigView) (job : PlainJob) (k nth : ℕ) (read : Result Packet Refusal)
    → read_admission config (came_at job (place.Out k nth) job.keeps_session) read ≡ admitted job
    → read_admission config (came_at job (place.Out k nth) false) read ≡ admitted (without_session job)
unkept_read config job k nth (Err why) is = absurd (cc is)
unkept_read config job k nth (Ok p) is =
    unkept_sent config job k nth p
    (sender config (came_at job (place.Out k nth) job.keeps_session) (place.Out k nth)) is

pub event_unkept : EventWithoutSession
unfolding admission
event_unkept config job k nth at is =
    let read = reading job.octets in
    let here : read_admission config (came_at job (place.Out k nth) job.keeps_session) read ≡ admitted job =
    subst (λ (x : Place). read_admission config (came_at job x job.keeps_session) read ≡ admitted job) at is in
    subst (λ (x : Place). read_admission config (came_at job x false) read ≡ admitted (without_session job)) (sym at)
    (unkept_read config job k nth read here)

-- What was written, from what a run begun fresh sent.
use Rattle.std.proofs.Common.{◌≡◌, ◌≢◌, ℕ, ◌+◌, Bool, true, false, eqb, List, [], ◌∷◌, length, Option, Result, Ok, Err, refl, ap, subst, ◌∙◌, arith}
use Rattle.std.proofs.lemmas.Bool.Decides.{nat_tests}
use Rattle.std.proofs.lemmas.List.{nil_from_length}
use Rattle.std.specs.Prelude.{OnOk, IfErr}
use Rattle.std.specs.Result.{IsErrAnd}
use Rattle.std.specs.Io.KnownBytes.{Appends}
use Rattle.roam_conf.specs.Config.{ConfigView}
use Rattle.roam_admission.specs.Admission.{PlainOut}
use Rattle.roam_realm.specs.RealmState.{RealmState}
use Rattle.roam_realm.specs.declared.start.Start.{Start}
use Rattle.roam_core.specs.Events.{PlainEvent, kept, kept_from}
use Rattle.roam_core.specs.Isolation.{IsIsolatedFromStart}
use Rattle.roam_core.specs.ManyRealms.{answers_to}
use Rattle.roam_core.specs.Openings.{fresh, fresh_starts, openings}
use Rattle.roam_core.specs.Provenance.{HasProvenance}
use Rattle.roam_core.specs.Runs.{ArePlaces, EachWantsMemory}
use Rattle.roam_sim.specs.Faults.{IsFaultOfText, of_script}
use Rattle.roam_sim.specs.Lines.{lines_of}
use Rattle.roam_sim.specs.declared.fault.SimFault.{SimFault}
use Rattle.roam_sim.specs.declared.fault.SimFault.TheVariants as sim
use Rattle.roam_sim.specs.declared.script.ScriptFault.{ScriptFault}
use Rattle.roam_sim.specs.declared.script.ScriptFault.TheVariants as script
use Rattle.roam_sim.specs.Script.{script_states}
use Rattle.roam_sim.specs.Simulation.{AreSentFor, IsConfiguration, IsSimulated, IsSimulatedInPart, Simulates}

kept_from-nil : (place : ℕ) (events : List PlainEvent) → kept_from place [] events ≡ events
kept_from-nil place [] = refl
kept_from-nil place (e ∷ es) = ap (λ l. e ∷ l) (kept_from-nil (place + 1) es)

-- what a run says of its packets, begun in these states with this configuration
pub record RunSent (config : ConfigView) (states : List RealmState) (events : List PlainEvent)
    (packets : List PlainOut) : Type 0 where
  pub answers : packets ≡ (answers_to config states events).packets
  pub isolated : (starts : List Start) → states ≡ openings config starts →
      IsIsolatedFromStart config starts events packets
  pub provenance : (starts : List Start) → states ≡ openings config starts → HasProvenance config starts events packets

-- the run began fresh
sent : (config begun : ConfigView) (states : List RealmState) (events : List PlainEvent) (packets : List PlainOut)
    → begun ≡ config → states ≡ fresh config → RunSent begun states events packets → AreSentFor config events packets
sent config begun states events packets same opened run =
    let here : RunSent config states events packets = rw same at run in
    record {
      answers = here.answers ∙ ap (λ (ss : List RealmState). (answers_to config ss events).packets) opened;
      isolated = here.isolated (fresh_starts config) opened;
      provenance = here.provenance (fresh_starts config) opened;
    }

-- no event was lost
all_kept : (config begun : ConfigView) (states : List RealmState) (script : List ℕ) (events : List PlainEvent)
    (lost : List ℕ) (packets : List PlainOut) (old new : Option (List ℕ))
    → script_states script ≡ Ok events → begun ≡ config → states ≡ fresh config →
    RunSent begun states (kept lost events) packets → lost ≡ []
    → Appends old new (lines_of packets) → IsSimulated config script old new
all_kept config begun states script events lost packets old new stated same opened run none written =
    let all : kept lost events ≡ events = ap (λ l. kept l events) none ∙ kept_from-nil 0 events in
    let from_kept = sent config begun states (kept lost events) packets same opened run in
    let from_all = subst (λ (es : List PlainEvent). AreSentFor config es packets) all from_kept in
    record { events = events; packets = packets; stated = stated; sent = from_all; written = written }

pub is_simulated : {E : Type 0} (r : Result Unit E) (config begun : ConfigView) (states : List RealmState)
    (script : List ℕ) (events : List PlainEvent) (lost : List ℕ) (packets : List PlainOut) (old new : Option (List ℕ))
    → script_states script ≡ Ok events → begun ≡ config → states ≡ fresh config →
    RunSent begun states (kept lost events) packets → OnOk r (lost ≡ [])
    → OnOk r (Appends old new (lines_of packets)) → OnOk r (IsSimulated config script old new)
is_simulated (Ok x) config begun states script events lost packets old new stated same opened run none written =
    all_kept config begun states script events lost packets old new stated same opened run none written
is_simulated (Err e) config begun states script events lost packets old new stated same opened run none written = tt

-- some events were lost
pub is_simulated_in_part : (config begun : ConfigView) (states : List RealmState) (script : List ℕ)
    (events : List PlainEvent) (lost : List ℕ) (packets : List PlainOut) (old new : Option (List ℕ))
    → script_states script ≡ Ok events → begun ≡ config → states ≡ fresh config →
    RunSent begun states (kept lost events) packets → lost ≢ [] → ArePlaces (length events) lost
    → EachWantsMemory begun events lost → Appends old new (lines_of packets) → IsSimulatedInPart config script old new
is_simulated_in_part config begun states script events lost packets old new stated same opened run some places wanted
    written =
    let from_kept = sent config begun states (kept lost events) packets same opened run in
    record {
      events = events;
      lost = lost;
      packets = packets;
      stated = stated;
      some_lost = some;
      places = places;
      wanted = subst (λ (c : ConfigView). EachWantsMemory c events lost) same wanted;
      sent = from_kept;
      written = written;
    }

-- whether a list of lost events is empty
pub none_lost : (lost : List ℕ) (len : ℕ) (is_empty : Bool) → len ≡ length lost → is_empty ≡ eqb len 0 →
    is_empty ≡ true → lost ≡ []
none_lost lost len is_empty same is holds =
    let none : length lost ≡ 0 = grind (arith, nat_tests) in nil_from_length lost none

pub some_lost : (lost : List ℕ) (len : ℕ) (is_empty : Bool) → len ≡ length lost → is_empty ≡ eqb len 0 →
    is_empty ≡ false → lost ≢ []
some_lost [] len is_empty same is fails = λ _. grind (arith, nat_tests)
some_lost (place ∷ lost) len is_empty same is fails = λ equal. cc

-- the script's fault is told: its first faulty line, or want of memory
told_script : {U : Type 0} (fault : ScriptFault) (r : Result U SimFault) (states : Result (List PlainEvent) ℕ)
    (n : ℕ) → r ≡ Err (of_script fault)
    → (fault ≡ script.Line n → states ≡ Err n) × (states ≡ Err n → fault ≡ script.Line n)
    → (r ≡ Err (sim.Line n) → states ≡ Err n) × (states ≡ Err n → r ≡ Err (sim.Line n))
told_script (script.Line m) r states n is line =
    ((λ same. line.0 cc), λ faulty. is ∙ ap (λ f. Err (of_script f)) (line.1 faulty))
told_script script.Memory r states n is line =
    ((λ same. cc), λ faulty. is ∙ ap (λ f. Err (of_script f)) (line.1 faulty))

error_of : {U : Type 0} (fault : ScriptFault) (r : Result U SimFault) → IsErrAnd r (λ given. given ≡ of_script fault)
    → r ≡ Err (of_script fault)
error_of fault (Ok x) is = absurd is
error_of fault (Err e) is = ap Err is

pub script_fault : {T U : Type 0} (fault : ScriptFault) (q : Result T ScriptFault) (r : Result U SimFault)
    (states : Result (List PlainEvent) ℕ) (n : ℕ) → q ≡ Err fault
    → IsErrAnd r (λ given. given ≡ of_script fault) → (q ≡ Err (script.Line n) → states ≡ Err n)
    × (states ≡ Err n → q ≡ Err (script.Line n))
    → (r ≡ Err (sim.Line n) → states ≡ Err n) × (states ≡ Err n → r ≡ Err (sim.Line n))
script_fault fault q r states n was told line =
    told_script fault r states n (error_of fault r told)
    ((λ same. line.0 (was ∙ ap Err same)), (λ faulty. let both = line.1 faulty in cc))

-- no text is at fault
pub never : {T : Type 0} (r : Result T SimFault) (fault : SimFault) → IfErr r (λ f. ¬ (IsFaultOfText f)) →
    IsFaultOfText fault → r ≡ Err fault → ⊥
never (Ok x) fault none is same = cc
never (Err f) fault none is same = let equal : f ≡ fault = cc in rw equal at none is

pub untouched : {T : Type 0} (P : Type 0) (r : Result T SimFault) → IfErr r (λ f. ¬ (IsFaultOfText f)) →
    IfErr r (λ f. IsFaultOfText f → P)
untouched P (Ok x) none = tt
untouched P (Err f) none = λ is. absurd (none is)

-- the configuration was read before
pub simulates : {E : Type 0} (r : Result Unit E) (configuration script : List ℕ) (config : ConfigView)
    (old new : Option (List ℕ)) → IsConfiguration configuration config
    → OnOk r (IsSimulated config script old new) → OnOk r (Simulates configuration script old new)
simulates (Ok x) configuration script config old new is done = record { config = config; read = is; simulated = done }
simulates (Err e) configuration script config old new is done = tt

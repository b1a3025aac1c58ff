-- The output of a simulation: the lines of the packets that a fresh broker sends for a script's events. Ours.
use Rattle.std.specs.Prelude.{◌≡◌, ◌≢◌, ℕ, List, [], length, Option, Ok}
use Rattle.std.specs.Io.KnownBytes.{Appends}
use Rattle.roam_conf.specs.Config.{ConfigView}
use Rattle.roam_conf_reader.specs.Faults.{States, NoneHolds, every_fault}
use Rattle.roam_admission.specs.Admission.{PlainOut}
use Rattle.roam_core.specs.Events.{PlainEvent, kept}
use Rattle.roam_core.specs.Isolation.{IsIsolatedFromStart}
use Rattle.roam_core.specs.ManyRealms.{answers_to}
use Rattle.roam_core.specs.Openings.{fresh, fresh_starts}
use Rattle.roam_core.specs.Provenance.{HasProvenance}
use Rattle.roam_core.specs.Runs.{ArePlaces, EachWantsMemory}
use Rattle.roam_sim.specs.Lines.{lines_of}
use Rattle.roam_sim.specs.Script.{script_states}

-- ## Packets for a script
-- What the written answers to the script's events send, one after the other, where each realm begins fresh: at
-- place 0 of its random words and ticket 0.
-- Source: ours
-- Rules out: an answer that depends on an earlier run
-- Stands in: `roam_sim` `Simulation.antt`: `packets_sent`
--
-- the packets that a broker sends for a list of events, where each realm begins fresh
abbrev pub packets_sent : ConfigView → List PlainEvent → List PlainOut
packets_sent config events = (answers_to config (fresh config) events).packets

-- packets that were sent for a list of events, where each realm begins fresh: the written answers, one after
-- the other. Each realm is isolated: its packets are those of its own written broker, which is given its own
-- events alone; and each of them has its origin there
pub record AreSentFor (config : ConfigView) (events : List PlainEvent) (packets : List PlainOut) : Type 0 where
  pub answers : packets ≡ packets_sent config events
  pub isolated : IsIsolatedFromStart config (fresh_starts config) events packets
  pub provenance : HasProvenance config (fresh_starts config) events packets

-- ## Simulation
-- The configuration's text states an accepted configuration, the script states a list of events, and just the
-- lines of the packets for these events are written, in order. Where events were lost for lack of memory, the
-- lines are those of the packets for the others, and the answer says so.
-- Source: ours
-- Rules out: a line too many, too few or twice; lost events that nobody hears of
-- Stands in: `roam_sim` `Simulation.antt`: `IsSimulated`, `IsSimulatedInPart`, `Simulates`, `SimulatesInPart`;
-- `simulate`, `sim`
--
-- the script states a list of events, and the lines of the packets for them were written
pub record IsSimulated (config : ConfigView) (script : List ℕ) (old new : Option (List ℕ)) : Type 0 where
  pub events : List PlainEvent
  pub packets : List PlainOut
  pub stated : script_states script ≡ Ok events
  pub sent : AreSentFor config events packets
  pub written : Appends old new (lines_of packets)

-- some of its events were lost, each noted by its place and once, and each of those wants memory; and the
-- lines of the packets for the others were written
pub record IsSimulatedInPart (config : ConfigView) (script : List ℕ) (old new : Option (List ℕ)) : Type 0 where
  pub events : List PlainEvent
  pub lost : List ℕ
  pub packets : List PlainOut
  pub stated : script_states script ≡ Ok events
  pub some_lost : lost ≢ []
  pub places : ArePlaces (length events) lost
  pub wanted : EachWantsMemory config events lost
  pub sent : AreSentFor config (kept lost events) packets
  pub written : Appends old new (lines_of packets)

-- the text states the configuration, and none of the faults of a configuration holds in it
pub record IsConfiguration (text : List ℕ) (config : ConfigView) : Type 0 where
  pub stated : States text config
  pub faultless : NoneHolds text every_fault

-- the text is that of some configuration
abbrev pub IsAccepted : List ℕ → Type 0
IsAccepted text = (config : ConfigView) × IsConfiguration text config

-- both texts are read, and the lines are written
pub record Simulates (configuration script : List ℕ) (old new : Option (List ℕ)) : Type 0 where
  pub config : ConfigView
  pub read : IsConfiguration configuration config
  pub simulated : IsSimulated config script old new

-- both texts are read, and the lines are written of all events but those that were lost
pub record SimulatesInPart (configuration script : List ℕ) (old new : Option (List ℕ)) : Type 0 where
  pub config : ConfigView
  pub read : IsConfiguration configuration config
  pub simulated : IsSimulatedInPart config script old new

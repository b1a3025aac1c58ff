-- The work of each command over the files that were read, and its faults: with what the output holds before it and
-- after it. Ours.
use Rattle.std.specs.Prelude.{◌≡◌, ◌⊎◌, ℕ, List, ◌++◌, Option, Err, IsOk, Contains, length, codes, string_bytes}
use Rattle.std.specs.Fmt.{decimal}
use Rattle.std.specs.Io.KnownBytes.{Keeps, Appends}
use Rattle.roam_conf.specs.Config.{ConfigView}
use Rattle.roam_port.specs.Sockets.{socket_endpoints}
use Rattle.roam_conf_reader.specs.declared.fault.ConfFault.{ConfFault}
use Rattle.roam_conf_reader.specs.Faults.{IsFirstFault}
use Rattle.roam_reload.specs.Numbers.{TooMany, laid_out}
use Rattle.roam_reload.specs.Reload.{MayFollow}
use Rattle.roam_reload.specs.Differences.{Hinders}
use Rattle.roam_reload.specs.declared.hindrance.Hindrance.{Hindrance}
use Rattle.roam_sim.specs.Script.{script_states}
use Rattle.roam_sim.specs.Simulation.{IsConfiguration, IsAccepted, SimulatesInPart}
use Rattle.roam_cli.specs.Printed.{IsPrinted}
use Rattle.roam_cli.specs.declared.text_file.TextFile.{TextFile}
use Rattle.roam_cli.specs.declared.report.Fault.{Fault}
use Rattle.roam_cli.specs.declared.report.Fault.TheVariants as fault

-- ## Summary
-- `ok realms R peers P shards S`: how many realms and peers an accepted configuration has, and over how many
-- shards the realms are spread.
-- Source: ours
-- Rules out: peers counted as realms
-- Stands in: `roam_cli` `CommandFaults.antt`: `summary_of`, `Checks`; `check`
--
-- how much there is in a configuration
abbrev pub summary_of : ConfigView → List ℕ
summary_of config =
    codes "ok realms " ++ decimal (length config.realms) ++ codes " peers " ++ decimal (length config.peers) ++
    codes " shards " ++ decimal config.shards ++ codes "\n"

-- the text in a file that was read
abbrev pub text_in : TextFile → List ℕ
text_in file = string_bytes file.text

-- a configuration's text is checked: the output gains the summary of what it states
pub record Checks (text : List ℕ) (old new : Option (List ℕ)) : Type 0 where
  pub config : ConfigView
  pub read : IsConfiguration text config
  pub printed : Appends old new (summary_of config)

-- a configuration is refused: the fault is the first one in the file of that path
pub record IsRefused (file : TextFile) (path : List ℕ) (why : ConfFault) : Type 0 where
  pub named : path ≡ file.path.now
  pub first : IsFirstFault (text_in file) why

-- a line of a script is faulty: it is the first one in the file of that path
pub record IsFaulty (file : TextFile) (path : List ℕ) (number : ℕ) : Type 0 where
  pub named : path ≡ file.path.now
  pub first : script_states (text_in file) ≡ Err number

-- ## Faults of a command
-- For each fault of `check` and `sim` what it says of the two files, and what of the output it leaves. A
-- refused configuration is its file's first fault, a faulty line its script's first one, where the
-- configuration is accepted; both leave the output unchanged. A refused write comes where both files are read,
-- or leaves the output unchanged; out of memory leaves it unchanged, or with the lines of the events that
-- weren't lost.
-- Source: ours
-- Rules out: a line printed before a faulty line; the script's fault before the configuration's
-- Stands in: `roam_cli` `CommandFaults.antt`: `CheckFails`, `RunFails`; `check`, `simulate`
--
-- the faults of a check, each with what it says, and what of the output it leaves
abbrev pub CheckFails : TextFile → Option (List ℕ) → Option (List ℕ) → Fault → Type 0
CheckFails file old new fault.Usage = ⊥
CheckFails file old new (fault.NoCommand word) = ⊥
CheckFails file old new (fault.NoTime word) = ⊥
CheckFails file old new (fault.Unreadable path reason) = ⊥
CheckFails file old new (fault.NotText path line) = ⊥
CheckFails file old new (fault.MayNotFollow path) = ⊥
CheckFails file old new (fault.Misstated path) = ⊥
CheckFails file old new (fault.Unanswered path reason) = ⊥
CheckFails file old new (fault.Late path seconds) = ⊥
CheckFails file old new (fault.StillServes path seconds) = ⊥
CheckFails file old new (fault.Cut path) = ⊥
CheckFails file old new (fault.Declined path what) = ⊥
CheckFails file old new (fault.Refused path why) = IsRefused file path.now why × Keeps old new
CheckFails file old new (fault.FaultyLine path number) = ⊥
CheckFails file old new fault.Write = IsAccepted (text_in file)
CheckFails file old new fault.Memory = Keeps old new
CheckFails file old new fault.Clock = ⊥
CheckFails file old new fault.Seed = ⊥
CheckFails file old new (fault.Bind endpoint reason) = ⊥
CheckFails file old new (fault.Control path reason) = ⊥
CheckFails file old new (fault.State path why) = ⊥
CheckFails file old new (fault.Descriptors wanted) = ⊥
CheckFails file old new (fault.Wait reason) = ⊥
CheckFails file old new fault.Thread = ⊥
CheckFails file old new fault.Receive = ⊥
CheckFails file old new fault.Audit = ⊥

-- both texts are read: the configuration is accepted, and the script has no faulty line
pub record AreRead (configuration script : List ℕ) : Type 0 where
  pub accepted : IsAccepted configuration
  pub faultless : IsOk (script_states script)

-- the faults of a run: a faulty line comes only where the configuration is accepted; a refused write only where
-- both files are read, or with the output as it was; and want of memory leaves the output as it was, or with
-- the lines of the packets for the events that weren't lost
abbrev pub RunFails : TextFile → TextFile → Option (List ℕ) → Option (List ℕ) → Fault → Type 0
RunFails configuration script old new fault.Usage = ⊥
RunFails configuration script old new (fault.NoCommand word) = ⊥
RunFails configuration script old new (fault.NoTime word) = ⊥
RunFails configuration script old new (fault.Unreadable path reason) = ⊥
RunFails configuration script old new (fault.NotText path line) = ⊥
RunFails configuration script old new (fault.MayNotFollow path) = ⊥
RunFails configuration script old new (fault.Misstated path) = ⊥
RunFails configuration script old new (fault.Unanswered path reason) = ⊥
RunFails configuration script old new (fault.Late path seconds) = ⊥
RunFails configuration script old new (fault.StillServes path seconds) = ⊥
RunFails configuration script old new (fault.Cut path) = ⊥
RunFails configuration script old new (fault.Declined path what) = ⊥
RunFails configuration script old new (fault.Refused path why) =
    IsRefused configuration path.now why × Keeps old new
RunFails configuration script old new (fault.FaultyLine path number) =
    IsFaulty script path.now number × IsAccepted (text_in configuration) × Keeps old new
RunFails configuration script old new fault.Write =
    Keeps old new ⊎ AreRead (text_in configuration) (text_in script)
RunFails configuration script old new fault.Memory =
    Keeps old new ⊎ SimulatesInPart (text_in configuration) (text_in script) old new
RunFails configuration script old new fault.Clock = ⊥
RunFails configuration script old new fault.Seed = ⊥
RunFails configuration script old new (fault.Bind endpoint reason) = ⊥
RunFails configuration script old new (fault.Control path reason) = ⊥
RunFails configuration script old new (fault.State path why) = ⊥
RunFails configuration script old new (fault.Descriptors wanted) = ⊥
RunFails configuration script old new (fault.Wait reason) = ⊥
RunFails configuration script old new fault.Thread = ⊥
RunFails configuration script old new fault.Receive = ⊥
RunFails configuration script old new fault.Audit = ⊥

-- ## Faults of a server
-- What the program can say of them: a refused configuration is its file's first fault; all others come only
-- where the configuration is accepted, but for being out of memory; a socket that can't be bound is at an
-- endpoint of it.
-- Source: ours
-- Rules out: sockets of a refused configuration
-- Stands in: `roam_cli` `CommandFaults.antt`: `ServeFails`; `serve_text`
--
-- the faults of a server: one that comes of the system or of the audit comes only where the configuration is
-- accepted, and an endpoint that can't be bound is one of its own
abbrev pub ServeFails : TextFile → Fault → Type 0
ServeFails file fault.Usage = ⊥
ServeFails file (fault.NoCommand word) = ⊥
ServeFails file (fault.NoTime word) = ⊥
ServeFails file (fault.Unreadable path reason) = ⊥
ServeFails file (fault.NotText path line) = ⊥
ServeFails file (fault.MayNotFollow path) = ⊥
ServeFails file (fault.Misstated path) = ⊥
ServeFails file (fault.Unanswered path reason) = ⊥
ServeFails file (fault.Late path seconds) = ⊥
ServeFails file (fault.StillServes path seconds) = ⊥
ServeFails file (fault.Cut path) = ⊥
ServeFails file (fault.Declined path what) = ⊥
ServeFails file (fault.Refused path why) = IsRefused file path.now why
ServeFails file (fault.FaultyLine path number) = ⊥
ServeFails file fault.Write = ⊥
ServeFails file fault.Memory = Unit {0}
ServeFails file fault.Clock = IsAccepted (text_in file)
ServeFails file fault.Seed = IsAccepted (text_in file)
ServeFails file (fault.Control path reason) = IsAccepted (text_in file)
ServeFails file (fault.State path why) = IsAccepted (text_in file)
ServeFails file (fault.Descriptors wanted) = IsAccepted (text_in file)
ServeFails file (fault.Wait reason) = IsAccepted (text_in file)
ServeFails file fault.Thread = IsAccepted (text_in file)
ServeFails file (fault.Bind endpoint reason) =
    (config : ConfigView) × IsConfiguration (text_in file) config × Contains (socket_endpoints config) endpoint
ServeFails file fault.Receive = IsAccepted (text_in file)
ServeFails file fault.Audit = IsAccepted (text_in file)

-- the faults of a question to a server: no answer came through the socket of this path, or none in time, or its end
-- didn't where it is asked to stop; or an answer that was cut, and what came is printed; or it was declined, and why is
-- printed; a write was refused, or memory is wanting
abbrev pub AskFails : List ℕ → Option (List ℕ) → Option (List ℕ) → Fault → Type 0
AskFails path old new (fault.Unanswered named reason) = (named.now ≡ path) × Keeps old new
AskFails path old new (fault.Late named seconds) = (named.now ≡ path) × Keeps old new
AskFails path old new (fault.StillServes named seconds) = (named.now ≡ path) × Keeps old new
AskFails path old new (fault.Cut named) = (named.now ≡ path) × IsPrinted old new
AskFails path old new (fault.Declined named what) = (named.now ≡ path) × IsPrinted old new
AskFails path old new fault.Write = Unit {0}
AskFails path old new fault.Memory = Keeps old new
AskFails path old new _ = ⊥

-- ## Stated anew
-- A configuration is printed with all that it has by default, and what is printed is accepted and states the same
-- configuration. What is printed of how it is served (`metrics`, `control`, `log_exchanges`) isn't said here.
-- Source: ours
-- Rules out: a default that isn't the one that counts; a secret that is read otherwise
-- Stands in: `roam_cli` `CommandFaults.antt`: `StatesAnew`, `StateFails`; `state_anew`
--
-- the output gains a text that states the configuration which this one states
pub record StatesAnew (text : List ℕ) (old new : Option (List ℕ)) : Type 0 where
  pub config : ConfigView
  pub read : IsConfiguration text config
  pub anew : List ℕ
  pub same : IsConfiguration anew config
  pub printed : Appends old new anew

-- a text doesn't state what it was made for: memory is wanting to read it, or it states something else
abbrev pub IsUnstated : List ℕ → Fault → Type 0
IsUnstated path fault.Memory = Unit {0}
IsUnstated path (fault.Misstated named) = named.now ≡ path
IsUnstated path _ = ⊥

-- the faults of a configuration that is to be stated anew
abbrev pub StateFails : TextFile → Option (List ℕ) → Option (List ℕ) → Fault → Type 0
StateFails file old new (fault.Refused path why) = IsRefused file path.now why × Keeps old new
StateFails file old new (fault.Misstated path) = (path.now ≡ file.path.now) × IsAccepted (text_in file) × Keeps old new
StateFails file old new fault.Write = IsAccepted (text_in file)
StateFails file old new fault.Memory = Keeps old new
StateFails file old new _ = ⊥

-- a configuration that is laid out by another one may not follow it, or is larger than one may be
abbrev pub IsHindered : ConfigView → ConfigView → Type 0
IsHindered before after =
    TooMany (laid_out before after) ⊎ ((hindrance : Hindrance) × Hinders before (laid_out before after) hindrance)

-- ## Compared
-- Both texts are accepted, and the second configuration, laid out by the first, may follow it; or it may not, which is
-- a fault.
-- Source: ours
-- Rules out: a success where a reload would be declined
-- Stands in: `roam_cli` `CommandFaults.antt`: `Follows`, `DoesNotFollow`, `CompareFails`; `compare`
--
-- the texts state configurations of which the second may follow the first
pub record Follows (text next_text : List ℕ) : Type 0 where
  pub before : ConfigView
  pub after : ConfigView
  pub read : IsConfiguration text before
  pub read_next : IsConfiguration next_text after
  pub may : MayFollow before (laid_out before after)

-- the texts state configurations of which the second may not follow the first
pub record DoesNotFollow (text next_text : List ℕ) : Type 0 where
  pub before : ConfigView
  pub after : ConfigView
  pub read : IsConfiguration text before
  pub read_next : IsConfiguration next_text after
  pub hindered : IsHindered before after

-- the faults of a comparison: one of the two configurations is refused; the second may not follow the first, and why is
-- printed; a write was refused, or memory is wanting
abbrev pub CompareFails : TextFile → TextFile → Option (List ℕ) → Option (List ℕ) → Fault → Type 0
CompareFails configuration next old new (fault.Refused path why) =
    (IsRefused configuration path.now why ⊎ IsRefused next path.now why) × Keeps old new
CompareFails configuration next old new (fault.MayNotFollow path) =
    (path.now ≡ next.path.now) × DoesNotFollow (text_in configuration) (text_in next) × IsPrinted old new
CompareFails configuration next old new fault.Write = Unit {0}
CompareFails configuration next old new fault.Memory = Keeps old new
CompareFails configuration next old new _ = ⊥

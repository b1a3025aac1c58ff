-- The outcome of a command line's words: what was done, or the fault that prevents it. Ours.
use Rattle.std.specs.Prelude.{◌≡◌, ◌⊎◌, ℕ, List, Option, OnOk, Contains}
use Rattle.std.specs.Io.KnownBytes.{Keeps, Appends}
use Rattle.roam_sim.specs.Simulation.{IsAccepted, Simulates, SimulatesInPart}
use Rattle.roam_cli.specs.CommandLine.{Asked, to_check, to_check_all, to_compare, to_simulate, to_serve, to_serve_with_its_seed, to_control, to_help, to_tell_version, Asks, AsksToServe, AsksNothing, IsUnknown, IsUntimed, files_of, IsConfigurationOf}
use Rattle.roam_cli.specs.CommandFaults.{Checks, StatesAnew, Follows}
use Rattle.roam_cli.specs.Printed.{IsPrinted}
use Rattle.roam_cli.specs.declared.command_line.ControlOrder.{ControlOrder}
use Rattle.roam_cli.specs.Report.{status_of, usage_text, version_text, Tells}
use Rattle.roam_cli.specs.declared.report.ProgramEnd.{ProgramEnd}
use Rattle.roam_cli.specs.declared.report.Fault.{Fault}
use Rattle.roam_cli.specs.declared.report.Fault.TheVariants as fault

-- what is asked for was done, over texts in the files: which ones, nothing here can say. Of a server nothing more is
-- said: it prints nothing, and what its sockets took and gave no contract can say; nor of what a server answers that is
-- asked through its control socket: it is printed. Nor of what is printed of two configurations of which the second may
-- follow the first: what becomes of each realm is said where that is decided (`after_reload` of `roam_reload`)
abbrev pub IsDone : Asked → Option (List ℕ) → Option (List ℕ) → Type 0
IsDone (to_check configuration) old new = (text : List ℕ) × Checks text old new
IsDone (to_check_all configuration) old new = (text : List ℕ) × StatesAnew text old new
IsDone (to_compare configuration next) old new =
    (text : List ℕ) × (next_text : List ℕ) × Follows text next_text × IsPrinted old new
IsDone (to_simulate configuration script) old new =
    (text : List ℕ) × (script_text : List ℕ) × Simulates text script_text old new
IsDone (to_serve configuration milliseconds) old new = (text : List ℕ) × IsAccepted text × Keeps old new
IsDone (to_serve_with_its_seed configuration milliseconds) old new =
    (text : List ℕ) × IsAccepted text × Keeps old new
IsDone (to_control path order) old new = IsPrinted old new
IsDone to_help old new = Appends old new usage_text
IsDone to_tell_version old new = Appends old new version_text

-- ## Answered
-- The words ask for something, and over some texts it was done: the output gained the summary, a text that states the
-- same, what becomes of each realm, the lines of the simulation, the usage or the version; or it is unchanged, and
-- some text is an accepted configuration, where a server was asked for. That the texts are those of the files that
-- the words name isn't said, nor what a server sent.
-- Source: ours
-- Rules out: a success that printed nothing
-- Stands in: `roam_cli` `Outcomes.antt`: `IsAnswered`, `IsDone`; `command`
--
-- the words ask for something, and it was done
pub record IsAnswered (words : List (List ℕ)) (old new : Option (List ℕ)) : Type 0 where
  pub asked : Asked
  pub worded : Asks words asked
  pub done : IsDone asked old new

-- the words name this file, or this control socket, or this file as the configuration, as the one that is to follow
-- another, or as the script
abbrev pub NamesFile : List (List ℕ) → List ℕ → Type 0
NamesFile words path = (asked : Asked) × Asks words asked × Contains (files_of asked) path

abbrev pub NamesSocket : List (List ℕ) → List ℕ → Type 0
NamesSocket words path = (order : ControlOrder) × Asks words (to_control path order)

abbrev pub NamesConfiguration : List (List ℕ) → List ℕ → Type 0
NamesConfiguration words path = (asked : Asked) × Asks words asked × IsConfigurationOf asked path

abbrev pub NamesNext : List (List ℕ) → List ℕ → Type 0
NamesNext words path = (configuration : List ℕ) × Asks words (to_compare configuration path)

abbrev pub NamesScript : List (List ℕ) → List ℕ → Type 0
NamesScript words path = (configuration : List ℕ) × Asks words (to_simulate configuration path)

-- the words ask for a simulation, and over some texts in its files it was done for all events but those that
-- were lost for want of memory
pub record IsAnsweredInPart (words : List (List ℕ)) (old new : Option (List ℕ)) : Type 0 where
  pub configuration : List ℕ
  pub script : List ℕ
  pub worded : Asks words (to_simulate configuration script)
  pub configuration_text : List ℕ
  pub script_text : List ℕ
  pub done : SimulatesInPart configuration_text script_text old new

-- ## Prevented
-- Why the words aren't answered: the words ask for nothing, and it is said if no command begins with the first one; or
-- they name the file that can't be read, the configuration that is refused or the script that is faulty, and the output
-- is unchanged; or a configuration that may not follow another one, and why is printed; a server ended by a fault,
-- and the output is unchanged; a write was refused, of which nothing more is said; or it was out of memory, and the
-- output is unchanged or has the lines of the events that weren't lost. The status is that fault's own. (That a file
-- couldn't be read, is refused or has a faulty line is said of its path alone.)
-- Source: ours
-- Rules out: a status of another fault; lines printed before a fault
-- Stands in: `roam_cli` `Outcomes.antt`: `Prevents`, `IsPrevented`; `command`
--
-- why the words aren't answered, and what of the output that leaves. It is as it was; but where events were lost
-- for want of memory it has the lines of the others; where a configuration may not follow another one, why; where a
-- server declined what it was asked for, its answer, and what came of one that was cut; and of a refused write
-- nothing is said of what went out
abbrev pub Prevents : List (List ℕ) → Option (List ℕ) → Option (List ℕ) → Fault → Type 0
Prevents words old new fault.Usage =
    AsksNothing words × Keeps old new × ((word : List ℕ) → ¬ (IsUnknown words word))
    × ((word : List ℕ) → ¬ (IsUntimed words word))
Prevents words old new (fault.NoCommand word) = AsksNothing words × Keeps old new × IsUnknown words word.now
Prevents words old new (fault.NoTime word) = AsksNothing words × Keeps old new × IsUntimed words word.now
Prevents words old new (fault.Unreadable path reason) = NamesFile words path.now × Keeps old new
Prevents words old new (fault.NotText path line) = NamesFile words path.now × Keeps old new
Prevents words old new (fault.MayNotFollow path) = NamesNext words path.now × IsPrinted old new
Prevents words old new (fault.Misstated path) = Asks words (to_check_all path.now) × Keeps old new
Prevents words old new (fault.Unanswered path reason) = NamesSocket words path.now × Keeps old new
Prevents words old new (fault.Late path seconds) = NamesSocket words path.now × Keeps old new
Prevents words old new (fault.StillServes path seconds) = NamesSocket words path.now × Keeps old new
Prevents words old new (fault.Cut path) = NamesSocket words path.now × IsPrinted old new
Prevents words old new (fault.Declined path what) = NamesSocket words path.now × IsPrinted old new
Prevents words old new (fault.Refused path why) = NamesConfiguration words path.now × Keeps old new
Prevents words old new (fault.FaultyLine path number) = NamesScript words path.now × Keeps old new
Prevents words old new fault.Write = ¬ (AsksNothing words)
Prevents words old new fault.Memory =
    ¬ (AsksNothing words) × (Keeps old new ⊎ IsAnsweredInPart words old new)
Prevents words old new fault.Clock = AsksToServe words × Keeps old new
Prevents words old new fault.Seed = AsksToServe words × Keeps old new
Prevents words old new (fault.Bind endpoint reason) = AsksToServe words × Keeps old new
Prevents words old new (fault.Control path reason) = AsksToServe words × Keeps old new
Prevents words old new (fault.State path why) = AsksToServe words × Keeps old new
Prevents words old new (fault.Descriptors wanted) = AsksToServe words × Keeps old new
Prevents words old new (fault.Wait reason) = AsksToServe words × Keeps old new
Prevents words old new fault.Thread = AsksToServe words × Keeps old new
Prevents words old new fault.Receive = AsksToServe words × Keeps old new
Prevents words old new fault.Audit = AsksToServe words × Keeps old new

-- a fault prevents the answer, and the status is its own
pub record IsPrevented (words : List (List ℕ)) (old new : Option (List ℕ)) (status : ℕ) : Type 0 where
  pub fault : Fault
  pub status_is : status_of fault ≡ status
  pub prevents : Prevents words old new fault

-- and it was told, where that could be
pub record IsToldFault (words : List (List ℕ)) (old new : Option (List ℕ)) (ending : ProgramEnd)
    (told_old told_new : Option (List ℕ)) : Type 0 where
  pub fault : Fault
  pub status_is : status_of fault ≡ ending.status
  pub prevents : Prevents words old new fault
  pub told : OnOk ending.told (Tells fault told_old told_new)

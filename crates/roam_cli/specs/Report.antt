-- The causes why the program doesn't do what it is asked for: the text of each fault, and the status with which the
-- program ends. Ours.
use Rattle.std.specs.Prelude.{◌≡◌, ℕ, List, [], ◌++◌, Option, Some, None, codes}
use Rattle.std.specs.Fmt.{decimal}
use Rattle.std.specs.Io.KnownBytes.{Appends}
use Rattle.roam_diagnosis.specs.Lines.{IsDiagnosis, printed}
use Rattle.roam_address.specs.Endpoints.{endpoint_text}
use Rattle.roam_conf_reader.specs.FaultNames.{name_of}
use Rattle.roam_keeping.specs.Obstacles.{obstacle_text}
use Rattle.roam_sockets.specs.declared.fault.ServeFault.{ServeFault}
use Rattle.roam_sockets.specs.declared.fault.ServeFault.TheVariants as serve
use Rattle.roam_sockets.specs.Faults.{path_octets}
use Rattle.roam_sockets.specs.Words.{words_of}
use Rattle.roam_cli.specs.Escaped.{escaped, named_text}
use Rattle.roam_cli.specs.declared.report.Fault.{Fault}
use Rattle.roam_cli.specs.declared.report.Fault.TheVariants as fault

-- the usage: a line for each command
abbrev pub usage_text : List ℕ
usage_text =
    codes "usage: roam check CONF\n       roam check OLD NEW\n       roam check --all CONF (prints the secrets too)\n       roam sim CONF SCRIPT\n       roam serve [--seed-of-file] CONF [MS]\n       roam ctl [PATH] status [--json|--watch|--problems|REALM[,REALM..]]\n       roam ctl [PATH] metrics|stop|trace N\n       roam ctl [PATH] reload [--lose] (without PATH: /run/roam/control)\n       roam streams CONF [MS]\n       roam check --streams CONF\n       roam help\n       roam version\n"

-- which program this is, and the line of the toolchain that proved it
abbrev pub version_text : List ℕ
version_text = codes "roam 1.0.0\nrattle-kit-13f logic dac8208d650f15bf\n"

-- these words, or the number of the error
abbrev pub words_or_number : Option (List ℕ) → ℕ → List ℕ
words_or_number (Some words) number = words
words_or_number None number = codes "error " ++ decimal number

-- the system's reason
abbrev pub reason_text : ℕ → List ℕ
reason_text number = words_or_number (words_of number) number

-- ## Text of a fault, status
-- What is printed of each fault, with its line feed, and the status with which the program ends: 2 for the
-- usage, also behind a word that is no command or no number of milliseconds, 3 for lack of memory, of something to wait
-- with and of a thread, 4 for a failed audit, else 1. What ends a server is one of these faults. The usage and the
-- version are texts too.
-- Source: ours
-- Rules out: a fault of one file reported of another
-- Stands in: `roam_cli` `Report.antt`: `text_of`, `status_of`, `fault_of`, `usage_text`, `version_text`;
-- `Fault::print`, `Fault::status`, `Fault::of_server`
--
-- where the text of a fault begins: at the program, and the word, the path or what else it is about
abbrev pub beginning_of : Fault → List ℕ
beginning_of fault.Usage = []
beginning_of (fault.NoCommand word) = named_text word.now ++ codes ": "
beginning_of (fault.NoTime word) = named_text word.now ++ codes ": "
beginning_of (fault.Unreadable path reason) = named_text path.now ++ codes ": "
beginning_of (fault.NotText path line) = named_text path.now ++ codes ":" ++ decimal line ++ codes ": "
beginning_of (fault.MayNotFollow path) = named_text path.now ++ codes ": "
beginning_of (fault.Misstated path) = named_text path.now ++ codes ": "
beginning_of (fault.Unanswered path why) = named_text path.now ++ codes ": "
beginning_of (fault.Late path seconds) = named_text path.now ++ codes ": "
beginning_of (fault.StillServes path seconds) = named_text path.now ++ codes ": "
beginning_of (fault.Cut path) = named_text path.now ++ codes ": "
beginning_of (fault.Declined path what) = named_text path.now ++ codes ": "
beginning_of (fault.Refused path why) = named_text path.now ++ codes ": "
beginning_of (fault.FaultyLine path number) = named_text path.now ++ codes ": "
beginning_of (fault.Bind endpoint reason) = codes "roam: cannot bind " ++ endpoint_text endpoint ++ codes ": "
beginning_of (fault.Control path reason) =
    codes "roam: cannot listen at " ++ escaped (path_octets path) ++ codes ": "
beginning_of (fault.State path why) =
    codes "roam: cannot keep sessions in " ++ escaped (path_octets path) ++ codes ": "
beginning_of (fault.Descriptors wanted) = codes "roam: too few file descriptors: "
beginning_of (fault.Wait reason) = codes "roam: cannot wait for sockets: "
beginning_of _ = codes "roam: "

-- and how it ends, with a line feed: what is said of that, and the usage behind a wrong word
abbrev pub ending_of : Fault → List ℕ
ending_of fault.Usage = usage_text
ending_of (fault.NoCommand word) = codes "no such command\n" ++ usage_text
ending_of (fault.NoTime word) = codes "not a number of milliseconds from 1 to 86400000\n" ++ usage_text
ending_of (fault.Unreadable path reason) = reason_text reason ++ codes "\n"
ending_of (fault.NotText path line) = codes "isn't UTF-8\n"
ending_of (fault.MayNotFollow path) = codes "needs a restart\n"
ending_of (fault.Misstated path) = codes "its printed text is wrong\n"
ending_of (fault.Unanswered path why) = why.now ++ codes "\n"
ending_of (fault.Late path seconds) =
    codes "no answer within " ++ decimal seconds ++ codes " s: it may still be carried out\n"
ending_of (fault.StillServes path seconds) =
    codes "asked to stop, and still running after " ++ decimal seconds ++ codes " s\n"
ending_of (fault.Cut path) = codes "answer cut\n"
ending_of (fault.Declined path what) = codes "declined, and nothing has changed: " ++ what.now ++ codes "\n"
ending_of (fault.Refused path why) = name_of why ++ codes "\n"
ending_of (fault.FaultyLine path number) = codes "line " ++ decimal number ++ codes "\n"
ending_of fault.Write = codes "write failed\n"
ending_of fault.Memory = codes "out of memory\n"
ending_of fault.Clock = codes "no clock\n"
ending_of fault.Seed = codes "no random seed\n"
ending_of (fault.Bind endpoint reason) = reason_text reason ++ codes "\n"
ending_of (fault.Control path reason) = reason_text reason ++ codes "\n"
ending_of (fault.State path why) = obstacle_text why ++ codes "\n"
ending_of (fault.Descriptors wanted) = decimal wanted ++ codes " wanted\n"
ending_of (fault.Wait reason) = reason_text reason ++ codes "\n"
ending_of fault.Thread = codes "cannot start a thread\n"
ending_of fault.Receive = codes "receive failed\n"
ending_of fault.Audit = codes "audit failed\n"

-- what is printed of a fault
abbrev pub text_of : Fault → List ℕ
text_of f = beginning_of f ++ ending_of f

-- the status after a fault
abbrev pub status_of : Fault → ℕ
status_of fault.Usage = 2
status_of (fault.NoCommand word) = 2
status_of (fault.NoTime word) = 2
status_of (fault.Unreadable path reason) = 1
status_of (fault.NotText path line) = 1
status_of (fault.MayNotFollow path) = 1
status_of (fault.Misstated path) = 1
status_of (fault.Unanswered path why) = 1
status_of (fault.Late path seconds) = 1
status_of (fault.StillServes path seconds) = 1
status_of (fault.Cut path) = 1
status_of (fault.Declined path what) = 1
status_of (fault.Refused path why) = 1
status_of (fault.FaultyLine path number) = 1
status_of fault.Write = 1
status_of fault.Memory = 3
status_of fault.Clock = 1
status_of fault.Seed = 1
status_of (fault.Bind endpoint reason) = 1
status_of (fault.Control path reason) = 1
status_of (fault.State path why) = 1
status_of (fault.Descriptors wanted) = 1
status_of (fault.Wait reason) = 3
status_of fault.Thread = 3
status_of fault.Receive = 1
status_of fault.Audit = 4

-- what ends a server, as a fault of the program
abbrev pub fault_of : ServeFault → Fault
fault_of serve.Clock = fault.Clock
fault_of serve.Seed = fault.Seed
fault_of (serve.Bind endpoint reason) = fault.Bind endpoint reason.0
fault_of (serve.Control path reason) = fault.Control path reason.0
fault_of (serve.State path why) = fault.State path why
fault_of (serve.Descriptors wanted) = fault.Descriptors wanted
fault_of (serve.Wait reason) = fault.Wait reason.0
fault_of serve.Thread = fault.Thread
fault_of serve.Receive = fault.Receive
fault_of serve.Audit = fault.Audit
fault_of serve.Memory = fault.Memory

-- it is that a configuration is refused
abbrev pub IsRefusal : Fault → Type 0
IsRefusal (fault.Refused path why) = Unit {0}
IsRefusal _ = ⊥

-- the lines of a diagnosis are said, ten at most
pub record Says (old new : Option (List ℕ)) : Type 0 where
  pub lines : List (List ℕ)
  pub form : IsDiagnosis lines
  pub said : Appends old new (printed lines)

-- a fault's text is told, and behind a refused configuration's the lines of a diagnosis
pub record Tells (f : Fault) (old new : Option (List ℕ)) : Type 0 where
  pub lines : List (List ℕ)
  pub form : IsDiagnosis lines
  pub none : ¬ (IsRefusal f) → lines ≡ []
  pub told : Appends old new (text_of f ++ printed lines)

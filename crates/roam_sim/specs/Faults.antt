-- The causes why a simulation ends early. Ours.
use Rattle.std.specs.Prelude.{ℕ, List, ◌++◌, codes}
use Rattle.std.specs.Fmt.{decimal}
use Rattle.roam_conf_reader.specs.FaultNames.{name_of}
use Rattle.roam_conf_reader.specs.declared.fault.ConfFault.{ConfFault}
use Rattle.roam_conf_reader.specs.declared.fault.ConfFault.TheVariants.{Memory}
use Rattle.roam_sim.specs.declared.script.ScriptFault.{ScriptFault}
use Rattle.roam_sim.specs.declared.script.ScriptFault.TheVariants as script
use Rattle.roam_sim.specs.declared.fault.SimFault.{SimFault}
use Rattle.roam_sim.specs.declared.fault.SimFault.TheVariants as sim

-- a configuration that isn't read: want of memory says nothing of its text
abbrev pub of_configuration : ConfFault → SimFault
of_configuration Memory = sim.Memory
of_configuration fault = sim.Config fault

-- a script that isn't read
abbrev pub of_script : ScriptFault → SimFault
of_script (script.Line number) = sim.Line number
of_script script.Memory = sim.Memory

-- a text is at fault: the configuration's, or the script's
abbrev pub IsFaultOfText : SimFault → Type 0
IsFaultOfText (sim.Config fault) = Unit {0}
IsFaultOfText (sim.Line number) = Unit {0}
IsFaultOfText _ = ⊥

-- what is printed of it
abbrev pub text_of : SimFault → List ℕ
text_of (sim.Config fault) = name_of fault
text_of (sim.Line number) = codes "line " ++ decimal number
text_of sim.Write = codes "write failed"
text_of sim.Memory = codes "out of memory"

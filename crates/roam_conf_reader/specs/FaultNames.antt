-- The text of a fault of a configuration: its name. Ours.
use Rattle.std.specs.Prelude.{ℕ, List, codes}
use Rattle.roam_conf_reader.specs.declared.fault.ConfFault.{ConfFault}
use Rattle.roam_conf_reader.specs.declared.fault.ConfFault.TheVariants as conf

-- the name of a configuration's fault
abbrev pub name_of : ConfFault → List ℕ
name_of conf.Syntax = codes "Syntax"
name_of conf.Missing = codes "Missing"
name_of conf.BadValue = codes "BadValue"
name_of conf.DuplicateRealm = codes "DuplicateRealm"
name_of conf.DuplicatePeer = codes "DuplicatePeer"
name_of conf.DuplicateEndpoint = codes "DuplicateEndpoint"
name_of conf.DuplicateServer = codes "DuplicateServer"
name_of conf.DuplicateLink = codes "DuplicateLink"
name_of conf.NoWayOut = codes "NoWayOut"
name_of conf.UnknownPeer = codes "UnknownPeer"
name_of conf.Memory = codes "Memory"

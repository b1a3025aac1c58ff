-- The text of a call that isn't recorded. Ours.
use Rattle.std.specs.Prelude.{ℕ, List, codes}
use Rattle.roam_history.specs.declared.fault.HubFault.{HubFault}
use Rattle.roam_history.specs.declared.fault.HubFault.TheVariants as fault

abbrev pub text_of : HubFault → List ℕ
text_of fault.NoShard = codes "no such shard"
text_of fault.Misplaced = codes "another shard's trace"
text_of fault.TraceFull = codes "the trace is full"
text_of fault.NoMemory = codes "out of memory"

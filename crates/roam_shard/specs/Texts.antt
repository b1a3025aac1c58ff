-- The text of a step that isn't recorded. Ours.
use Rattle.std.specs.Prelude.{ℕ, List, codes}
use Rattle.roam_shard.specs.declared.fault.TraceFault.{TraceFault}
use Rattle.roam_shard.specs.declared.fault.TraceFault.TheVariants as fault

abbrev pub text_of : TraceFault → List ℕ
text_of fault.TraceFull = codes "the trace is full"
text_of fault.NoMemory = codes "out of memory"

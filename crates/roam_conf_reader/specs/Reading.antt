-- The answer of a reading function: what is stated, or `BadValue` where nothing is, or `Memory`. Ours.
use Rattle.std.specs.Prelude.{◌≡◌, ◌⊎◌, Option, Some, None, Result, MatchResult, IfErr}
use Rattle.roam_conf_reader.specs.declared.fault.ConfFault.{ConfFault}
use Rattle.roam_conf_reader.specs.declared.fault.ConfFault.TheVariants.{BadValue, Memory}

-- the value stated, or `BadValue` where none is
abbrev pub Reads : {V : Type 0} → Option V → Result V ConfFault → Type 0
Reads stated result = MatchResult result (λ v. stated ≡ Some v) (λ f. (f ≡ BadValue) × (stated ≡ None))

-- the only faults of reading a value
abbrev pub IsValueFault : {T : Type 0} → Result T ConfFault → Type 0
IsValueFault result = IfErr result (λ f. (f ≡ BadValue) ⊎ (f ≡ Memory))

-- the only fault of a call that only may want memory
abbrev pub IsMemoryFault : {T : Type 0} → Result T ConfFault → Type 0
IsMemoryFault result = IfErr result (λ f. f ≡ Memory)

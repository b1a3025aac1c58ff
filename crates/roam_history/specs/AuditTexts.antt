-- The texts of an audit's faults. Ours.
use Rattle.std.specs.Prelude.{ℕ, List, ◌++◌, codes}
use Rattle.std.specs.Fmt.{decimal}
use Rattle.roam_history.specs.declared.audit_fault.AuditFault.{AuditFault}
use Rattle.roam_history.specs.declared.audit_fault.AuditFault.TheVariants as fault

abbrev pub text_of : AuditFault → List ℕ
text_of (fault.Seats shard) = codes "seats of shard " ++ decimal shard
text_of (fault.Receipt shard number) = codes "receipt " ++ decimal number ++ codes " of shard " ++ decimal shard

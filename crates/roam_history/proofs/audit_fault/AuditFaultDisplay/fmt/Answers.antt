use Rattle.std.proofs.Common.{append_assoc}
use Rattle.roam_history.proofs.audit_fault.AuditFaultDisplay.fmt.Goals as goal

pub returns-in-Receipt-clause-writes : goal.returns-in-Receipt-clause-writes
returns-in-Receipt-clause-writes g c = rw c.in-Receipt.is (simp append_assoc c.write-in-Receipt.ensures.writes)

use Rattle.std.proofs.Common.{refl}
use Rattle.roam_sessions.proofs.table.Table.end_agreeing.Goals as goal

pub mark-requires-clause-within : goal.mark-requires-clause-within
mark-requires-clause-within g c = c.if-may_mark.ensures refl c.requires.sound c.requires.no_id

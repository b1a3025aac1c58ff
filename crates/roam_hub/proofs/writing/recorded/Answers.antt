-- A history has no more steps than entries.
use Rattle.std.proofs.Common.{arith}
use Rattle.roam_history.proofs.EntryLemmas.{steps-few}
use Rattle.roam_hub.proofs.writing.recorded.Goals as goal

pub note-requires-clause-number : goal.note-requires-clause-number
note-requires-clause-number g c =
    let few = steps-few c.args.front.now.entries in
    omega (arith, c.len-number.ensures, few, c.requires.room)

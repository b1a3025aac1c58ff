use Rattle.roam_sessions.proofs.MapLemmas.{puts-row}
use Rattle.roam_sessions.proofs.ends.write.Goals as goal

pub returns-in-Some-clause-puts : goal.returns-in-Some-clause-puts
returns-in-Some-clause-puts g c = λ there.
    puts-row c.args.map.now (c.get_mut.follows.lender c.args.ends) c.args.row.now _
    ((c.get_mut.follows.holds c.args.ends).3 there)

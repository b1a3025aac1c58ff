use Rattle.roam_pending.specs.Shown.{shown}
use Rattle.roam_migrate.proofs.EndsLemmas.{goes_by_request}
use Rattle.roam_migrate.proofs.ends.ends_then.Goals as goal

pub standing_ends-requires : goal.standing_ends-requires
standing_ends-requires g c = c.in-Some.ensures.stays

pub returns-in-None-clause-goes : goal.returns-in-None-clause-goes
returns-in-None-clause-goes g c =
    goes_by_request c.args.old.now c.args.new.now (shown c.args.entry.now) c.in-None.ensures.goes

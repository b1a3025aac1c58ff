use Rattle.std.proofs.Common.{rules}
use Rattle.roam_reload.proofs.hindrance.hindrance_of.Goals as goal

-- nothing hinders it
pub returns-in-None-clause-none : goal.returns-in-None-clause-none
returns-in-None-clause-none c = record {
  seed = search rules;
  shards = search rules;
  numbers = search rules;
  kinds = c.in-None.ensures.none;
}

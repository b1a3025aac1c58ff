use Rattle.std.proofs.Common.{refl}
use Rattle.roam_log.proofs.said.say_nothing.Goals as goal

pub returns-clause-says : goal.returns-clause-says
returns-clause-says c fault = record {
  asked = refl;
  user_name = c.set.ensures;
  calling = c.set-2.ensures;
  further = c.keep_no_details.ensures fault;
}

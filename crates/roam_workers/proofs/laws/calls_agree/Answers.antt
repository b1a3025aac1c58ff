use Rattle.roam_workers.proofs.AgreeingLemmas.{answers-agree, ticks-agree}
use Rattle.roam_workers.proofs.laws.calls_agree.Goals as goal

pub returns-clause-answers : goal.returns-clause-answers
returns-clause-answers c = answers-agree

pub returns-clause-ticks : goal.returns-clause-ticks
returns-clause-ticks c = ticks-agree

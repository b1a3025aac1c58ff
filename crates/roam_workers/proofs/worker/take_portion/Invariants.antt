use Rattle.roam_workers.specs.Jobs.{jobs_of}
use Rattle.roam_workers.specs.HandedJobs.{receiving}
use Rattle.roam_workers.specs.Handlings.{at_work}
use Rattle.roam_workers.specs.Work.{HasWorked}
use Rattle.roam_workers.proofs.ReceivedLemmas.{HandlesSome}
use Rattle.roam_workers.proofs.worker.take_portion.Given as goal

-- what was heard so far, and what was done of that
abbrev pub invariant-loop : goal.invariant-loop
invariant-loop g l = record {
  heard : HandlesSome g.N.Opened.opening g.T.Hearing.hears (λ q. jobs_of q.items (λ j. j.job))
      l.fn.receiver
      (receiving l.fn.context.seat l.fn.context.counting l.fn.context.outgoing l.fn.context.datagrams
      l.fn.jobs.for_others.items)
      l.receiver
      (receiving l.context.seat l.context.counting l.context.outgoing l.context.datagrams l.jobs.for_others.items);
  worked : HasWorked g.N.Opened.opening
      (at_work l.fn.context.seat l.fn.context.counting l.fn.context.outgoing)
      (at_work l.context.seat l.context.counting l.context.outgoing);
}

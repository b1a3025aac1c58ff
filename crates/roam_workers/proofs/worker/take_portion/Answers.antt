-- One datagram after the other.
use Rattle.std.proofs.Common.{inl, inr, refl}
use Rattle.roam_workers.specs.HandedJobs.{receiving}
use Rattle.roam_workers.proofs.HandedLemmas.{worked_here}
use Rattle.roam_workers.proofs.ReceivedLemmas.{handled_each, handled_more, handled_none}
use Rattle.roam_workers.proofs.WorkLemmas.{worked_none}
use Rattle.roam_workers.proofs.worker.take_portion.Goals as goal

pub loop-init : goal.loop-init
loop-init g c =
    let o = g.N.Opened.opening in
    record { heard = handled_none o g.T.Hearing.hears _ _ _; worked = worked_none o _ }

pub loop-preserved : goal.loop-preserved
loop-preserved g c =
    let o = g.N.Opened.opening in
    let inv = c.loop.invariant in
    let old = c.loop.context in
    let new = c.arrive.new.self in
    record {
      heard = handled_more o g.T.Hearing.hears _ _ _ _ _ _ _ _ _ _ _ inv.heard c.in-Datagram.ensures c.arrive.ensures;
      worked = worked_here o _ _ _ _ (receiving old.seat old.counting old.outgoing old.datagrams
          c.loop.jobs.for_others.items)
          (receiving new.seat new.counting new.outgoing new.datagrams c.arrive.new.jobs.for_others.items) _ inv.worked
          c.arrive.ensures;
    }

pub returns-then-is_over-clause-heard : goal.returns-then-is_over-clause-heard
returns-then-is_over-clause-heard g c =
    handled_each g.N.Opened.opening g.T.Hearing.hears _ _ _ _ _ _ c.loop.invariant.heard (inl refl)

pub returns-in-Nothing-clause-heard : goal.returns-in-Nothing-clause-heard
returns-in-Nothing-clause-heard g c =
    handled_each g.N.Opened.opening g.T.Hearing.hears _ _ _ _ _ _ c.loop.invariant.heard
    (inr (inl c.in-Nothing.ensures))

pub returns-in-GiveUp-clause-heard : goal.returns-in-GiveUp-clause-heard
returns-in-GiveUp-clause-heard g c =
    handled_each g.N.Opened.opening g.T.Hearing.hears _ _ _ _ _ _ c.loop.invariant.heard (inr (inr c.in-GiveUp.ensures))

pub returns-clause-heard : goal.returns-clause-heard
returns-clause-heard g c =
    handled_each g.N.Opened.opening g.T.Hearing.hears _ _ _ _ _ _ c.loop.invariant.heard (inl refl)

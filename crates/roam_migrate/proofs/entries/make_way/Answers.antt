use Rattle.std.proofs.Common.{◌∙◌, arith, refl, sym}
use Rattle.roam_migrate.proofs.EntriesOverLemmas.{none_left}
use Rattle.roam_migrate.proofs.FewLemmas.{one_fewer, turn}
use Rattle.roam_migrate.proofs.entries.make_way.Goals as goal

pub loop-ticket-init : goal.loop-ticket-init
loop-ticket-init g c = record { left = refl; others = λ r ne. refl; kept = refl }

-- one goes
pub loop-ticket-preserved : goal.loop-ticket-preserved
loop-ticket-preserved g c =
    let first = g.E.Entries.entries_of c.args.entries.now c.args.realm in
    let cur = g.E.Entries.entries_of c.loop-ticket.entries c.args.realm in
    let go = c.in-Some.ensures.some in
    let become = c.take_out.ensures.entries in
    record {
      left = rw become.here (turn c.args.most first cur c.in-Some.ticket c.in-Some.ensures.list.in_order go.0 go.1
          c.loop-ticket.invariant.left);
      others = λ r ne. become.others r ne ∙ c.loop-ticket.invariant.others r ne;
      kept = c.take_out.ensures.kept ∙ c.loop-ticket.invariant.kept;
    }

pub loop-ticket-smaller : goal.loop-ticket-smaller
loop-ticket-smaller g c =
    let cur = g.E.Entries.entries_of c.loop-ticket.entries c.args.realm in
    let go = c.in-Some.ensures.some in
    let fewer = one_fewer cur c.in-Some.ticket c.in-Some.ensures.list.in_order go.0 in
    rw c.take_out.ensures.entries.here (omega (arith, fewer))

-- none is left that makes way, or there are few enough
pub returns-clause-entries : goal.returns-clause-entries
returns-clause-entries g c =
    let cur = g.E.Entries.entries_of c.loop-ticket.entries c.args.realm in
    record {
      here = sym (none_left c.args.most _ cur refl c.in_default.ensures.none) ∙ c.loop-ticket.invariant.left;
      others = c.loop-ticket.invariant.others;
    }

pub returns-clause-kept : goal.returns-clause-kept
returns-clause-kept g c = c.loop-ticket.invariant.kept

use Rattle.std.proofs.Common.{Option, false, sym, ap, ◌∙◌, arith}
use Rattle.std.specs.Option.{option_map_or}
use Rattle.roam_pending.specs.PlainEntry.{PlainEntry, is_done}
use Rattle.roam_migrate.specs.Private.Lost.{one_if}
use Rattle.roam_migrate.proofs.LossLemmas.{all_read, few_count, fewer_left, more_read, none_read, room_read}
use Rattle.roam_migrate.proofs.losses.held_in.Goals as goal

pub loop-due-init : goal.loop-due-init
loop-due-init g c = sym (none_read is_done (g.E.Entries.entries_of c.args.entries.now c.args.realm))

pub more-held-requires : goal.more-held-requires
more-held-requires g c =
    let es = g.E.Entries.entries_of c.args.entries.now c.args.realm in
    omega (
      arith,
      room_read is_done c.loop-due.last es c.in-Some.due c.in-Some.ensures.next,
      c.loop-due.invariant,
      c.len-most.ensures.len,
    )

pub loop-due-preserved : goal.loop-due-preserved
loop-due-preserved g c =
    let es = g.E.Entries.entries_of c.args.entries.now c.args.realm in
    let here = ap one_if (c.is_held.ensures ∙ ap (λ (o : Option PlainEntry). option_map_or is_done o false)
    c.find_ticket.ensures.found) in
    omega (
      arith,
      more_read is_done c.loop-due.last es c.in-Some.due c.in-Some.ensures.list.in_order
          c.in-Some.ensures.next,
      c.more-held.ensures,
      c.loop-due.invariant,
      here,
    )

pub loop-due-smaller : goal.loop-due-smaller
loop-due-smaller g c =
    fewer_left c.loop-due.last (g.E.Entries.entries_of c.args.entries.now c.args.realm) c.in-Some.due
    c.in-Some.ensures.list.in_order c.in-Some.ensures.next

pub returns : goal.returns
returns g c =
    let es = g.E.Entries.entries_of c.args.entries.now c.args.realm in
    omega (
      arith,
      c.min.ensures,
      c.loop-due.invariant,
      all_read is_done c.loop-due.last es c.in_default.ensures.next,
      few_count is_done es,
      c.len-most.ensures.len,
    )

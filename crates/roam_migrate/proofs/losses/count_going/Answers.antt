use Rattle.std.proofs.Common.{ℕ, Option, false, sym, ap, subst, ◌∙◌, arith}
use Rattle.std.specs.List.{AllByRecursion}
use Rattle.std.specs.Option.{option_map_or}
use Rattle.roam_pending.specs.PlainEntry.{PlainEntry, has_ticket}
use Rattle.roam_pending.proofs.TestLemmas.{all-find}
use Rattle.roam_realm.specs.Sound.{IsEntry}
use Rattle.roam_migrate.specs.Private.Lost.{counted, held_and_goes, one_if, waits_and_goes}
use Rattle.roam_migrate.proofs.LossLemmas.{all_read, few_count, fewer_left, more_read, none_read, room_read}
use Rattle.roam_migrate.proofs.losses.count_going.Goals as goal

pub loop-due-init : goal.loop-due-init
loop-due-init g c =
    let es = g.E.Entries.entries_of c.args.entries.now c.index-realm.result in
    record {
      waiting = sym (none_read (waits_and_goes c.args.old.now c.args.new.now) es);
      held = sym (none_read (held_and_goes c.args.old.now c.args.new.now) es);
    }

-- an entry that is found is one of the realm's
pub goes_as-goes-requires : goal.goes_as-goes-requires
goes_as-goes-requires g c =
    let es = g.E.Entries.entries_of c.args.entries.now c.index-realm.result in
    let t = c.in-Some.due.ticket in
    let each = subst (λ (r : ℕ). AllByRecursion (IsEntry c.args.old.now c.args.numbers.now.ticket)
    (g.E.Entries.entries_of c.args.entries.now r)) (sym c.index-realm.ensures) c.requires.each in
    λ e there. (all-find (IsEntry c.args.old.now c.args.numbers.now.ticket) (has_ticket t) es e
    (sym c.find_ticket.ensures.found ∙ there) each).request

pub more-waiting-requires : goal.more-waiting-requires
more-waiting-requires g c =
    let es = g.E.Entries.entries_of c.args.entries.now c.index-realm.result in
    let test = waits_and_goes c.args.old.now c.args.new.now in
    omega (
      arith,
      room_read test c.loop-due.last es c.in-Some.due c.in-Some.ensures.next,
      c.loop-due.invariant.waiting,
      c.len-most.ensures.len,
    )

pub more-held-requires : goal.more-held-requires
more-held-requires g c =
    let es = g.E.Entries.entries_of c.args.entries.now c.index-realm.result in
    let test = held_and_goes c.args.old.now c.args.new.now in
    omega (
      arith,
      room_read test c.loop-due.last es c.in-Some.due c.in-Some.ensures.next,
      c.loop-due.invariant.held,
      c.len-most.ensures.len,
    )

pub loop-due-preserved : goal.loop-due-preserved
loop-due-preserved g c =
    let es = g.E.Entries.entries_of c.args.entries.now c.index-realm.result in
    let waits = waits_and_goes c.args.old.now c.args.new.now in
    let held = held_and_goes c.args.old.now c.args.new.now in
    let order = c.in-Some.ensures.list.in_order in
    let next = c.in-Some.ensures.next in
    let one = ap one_if (c.goes_as-goes.ensures.waiting ∙ ap (λ (o : Option PlainEntry). option_map_or waits o false)
    c.find_ticket.ensures.found) in
    let other = ap one_if (c.goes_as-goes.ensures.held ∙ ap (λ (o : Option PlainEntry). option_map_or held o false)
    c.find_ticket.ensures.found) in
    record {
      waiting = omega (
        arith,
        more_read waits c.loop-due.last es c.in-Some.due order next,
        c.more-waiting.ensures,
        c.loop-due.invariant.waiting,
        one,
      );
      held = omega (
        arith,
        more_read held c.loop-due.last es c.in-Some.due order next,
        c.more-held.ensures,
        c.loop-due.invariant.held,
        other,
      );
    }

pub loop-due-smaller : goal.loop-due-smaller
loop-due-smaller g c =
    fewer_left c.loop-due.last (g.E.Entries.entries_of c.args.entries.now c.index-realm.result) c.in-Some.due
    c.in-Some.ensures.list.in_order c.in-Some.ensures.next

pub returns : goal.returns
returns g c =
    let es = g.E.Entries.entries_of c.args.entries.now c.index-realm.result in
    let waits = waits_and_goes c.args.old.now c.args.new.now in
    let held = held_and_goes c.args.old.now c.args.new.now in
    let none = c.in_default.ensures.next in
    let one = ap (λ (r : ℕ). counted waits (g.E.Entries.entries_of c.args.entries.now r)) c.index-realm.ensures in
    let other = ap (λ (r : ℕ). counted held (g.E.Entries.entries_of c.args.entries.now r)) c.index-realm.ensures in
    record {
      waiting = omega (arith, all_read waits c.loop-due.last es none, few_count waits es, one);
      held = omega (arith, all_read held c.loop-due.last es none, few_count held es, other);
    }

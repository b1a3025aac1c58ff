use Rattle.std.proofs.Common.{◌+◌, ◌-◌, List, Some, None, length, ap, ◌∙◌}
use Rattle.roam_sessions.specs.Reading.{items_within, with_front}
use Rattle.roam_sessions.specs.ShownLedgers.{shown_items}
use Rattle.roam_sessions.specs.declared.item.Item.{Item}
use Rattle.roam_sessions.proofs.LoopLemmas.{ends_seen, fails, goes_on_seen, is_cut, seen_item}
use Rattle.roam_sessions.proofs.reading.items_of.Goals as goal

pub returns-in-Err : goal.returns-in-Err
returns-in-Err c =
    fails c.in-Err.error (shown_items c.loop.items.items) (length c.args.octets.now) c.loop.counter c.loop.rest.now
    (items_within (length c.args.octets.now) c.args.octets.now) c.loop-test.true (rw c.in-Err.is at c.item_of.ensures)
    c.loop.invariant

pub returns-in-Ok-None-default : goal.returns-in-Ok-None-default
returns-in-Ok-None-default c =
    let octets = c.args.octets.now in
    let here = c.in-Ok-None-default in
    let item = seen_item c.loop.rest.now here.field-0-0 None here.after.now (rw here.is at c.item_of.ensures)
    here.field-0-0-is in
    ends_seen c.loop.items.items (length octets) c.loop.counter c.loop.rest.now here.after.now
    (items_within (length octets) octets) c.ended.result c.loop-test.true item c.loop.invariant c.ended.ensures

pub loop-preserved : goal.loop-preserved
loop-preserved c =
    let octets = c.args.octets.now in
    let here = c.in-Ok-Some-default in
    let item = seen_item c.loop.rest.now here.field-0-0 (Some here.item) here.after.now
    (rw here.is at c.item_of.ensures) here.field-0-0-is in
    let rest = items_within (length octets - (c.loop.counter + 1)) here.after.now in
    ap (λ (l : List Item). with_front (shown_items l) rest) c.in_ok-push-in-Ok-Some-default.ensures.items
    ∙ goes_on_seen c.loop.items.items (length octets) c.loop.counter c.loop.rest.now here.item here.after.now
    (items_within (length octets) octets) c.loop-test.true item c.loop.invariant

pub returns : goal.returns
returns c =
    is_cut (shown_items c.loop.items.items) (length c.args.octets.now) c.loop.counter c.loop.rest.now
    (items_within (length c.args.octets.now) c.args.octets.now) c.loop-test.false c.loop.invariant

use Rattle.std.proofs.Common.{◌≡◌, ◌-◌, length}
use Rattle.roam_sessions.specs.ShownLedgers.{shown_items}
use Rattle.roam_sessions.specs.Reading.{items_within, with_front}
use Rattle.roam_sessions.proofs.reading.items_of.Given as goal

abbrev pub invariant-loop : goal.invariant-loop
invariant-loop l =
    with_front (shown_items l.items.items) (items_within (length l.octets - l.counter) l.rest)
    ≡ items_within (length l.octets) l.octets

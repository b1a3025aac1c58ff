use Rattle.roam_migrate.proofs.CarriedOverLemmas.{same_sound, same_state}
use Rattle.roam_migrate.proofs.reload.reserve_carry.Goals as goal

-- memory was refused: what the numbers stand for is as it was
pub returns-in_err-reserve_lanes-clause-state : goal.returns-in_err-reserve_lanes-clause-state
returns-in_err-reserve_lanes-clause-state g c = λ es.
    let kept = c.reserve_lanes.ensures in
    same_state es c.args.numbers.now c.reserve_lanes.new.numbers kept.lanes kept.ticket kept.stream_position kept.rests
    kept.sessions

pub returns-in_err-reserve_lanes-clause-sound : goal.returns-in_err-reserve_lanes-clause-sound
returns-in_err-reserve_lanes-clause-sound g c = λ k es sound.
    let kept = c.reserve_lanes.ensures in
    same_sound k es c.args.numbers.now c.reserve_lanes.new.numbers kept.lanes kept.ticket kept.stream_position
    kept.sessions sound

-- each lane stays where it is
pub returns-then-stand_as_before-clause-ready : goal.returns-then-stand_as_before-clause-ready
returns-then-stand_as_before-clause-ready g c =
    (c.in_ok-reserve_lanes.ensures.room, c.stand_as_before.ensures.0 c.if-stand_as_before.true)

pub returns-then-stand_as_before-clause-state : goal.returns-then-stand_as_before-clause-state
returns-then-stand_as_before-clause-state g c = λ es.
    let kept = c.reserve_lanes.ensures in
    same_state es c.args.numbers.now c.reserve_lanes.new.numbers kept.lanes kept.ticket kept.stream_position kept.rests
    kept.sessions

pub returns-then-stand_as_before-clause-sound : goal.returns-then-stand_as_before-clause-sound
returns-then-stand_as_before-clause-sound g c = λ k es sound.
    let kept = c.reserve_lanes.ensures in
    same_sound k es c.args.numbers.now c.reserve_lanes.new.numbers kept.lanes kept.ticket kept.stream_position
    kept.sessions sound

-- all are fresh
pub returns-clause-ready : goal.returns-clause-ready
returns-clause-ready g c = (c.in_ok-fresh_lanes.ensures.lanes, c.in_ok-fresh_lanes.ensures.rests)

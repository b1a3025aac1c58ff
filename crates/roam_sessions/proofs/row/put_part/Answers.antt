use Rattle.std.proofs.Common.{◌+◌, length, arith}
use Rattle.std.proofs.lemmas.List.{take_more_set}
use Rattle.roam_sessions.proofs.BufferLemmas.{put-part}
use Rattle.roam_sessions.proofs.row.put_part.Goals as goal

pub returns-in_default-clause-text : goal.returns-in_default-clause-text
returns-in_default-clause-text c =
    rw c.in_default.is (take_more_set c.args.buffer.now c.args.at 0 (omega (arith, c.requires)))

pub returns-clause-text : goal.returns-clause-text
returns-clause-text c =
    let octets = c.in-Some.part.octets.now in
    rw c.in-Some.is (put-part c.args.buffer.now octets c.copy_from_slice.new.self c.args.at (1 + length octets)
    (c.args.at + 1 + length octets) c.copy_from_slice.ensures.after (omega arith)
    (omega (arith, c.requires, c.in-Some.part.size)))

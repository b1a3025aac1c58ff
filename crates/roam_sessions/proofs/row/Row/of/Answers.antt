use Rattle.std.proofs.Common.{◌/◌, ◌%◌, ℕ, arith}
use Rattle.std.specs.Prelude.{replicate}
use Rattle.std.proofs.lemmas.List.{length-replicate}
use Rattle.roam_sessions.specs.Kept.{shown_asked}
use Rattle.roam_sessions.proofs.BufferLemmas.{four-parts}
use Rattle.roam_sessions.proofs.row.Row.of.Goals as goal

pub returns : goal.returns
returns c =
    let q = shown_asked c.args.asked in
    four-parts (replicate 1024 0) c.put_part-addressed.new.buffer c.put_part-identified.new.buffer
    c.put_part-addressed_by_ipv6.new.buffer c.put_part-len.new.buffer c.put_part-addressed.result
    c.put_part-identified.result c.put_part-addressed_by_ipv6.result c.put_part-len.result (q.peer / 256)
    (q.peer % 256) q.nas.address q.nas.identifier q.nas.ipv6 q.id
    (omega (arith, length-replicate {A = ℕ} 1024 0)) c.put_part-addressed.ensures.text
    c.put_part-identified.ensures.text c.put_part-addressed_by_ipv6.ensures.text c.put_part-len.ensures.text

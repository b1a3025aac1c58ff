use Rattle.std.proofs.Common.{length, refl, sym, arith}
use Rattle.std.proofs.lemmas.Option.{slice_get_past, slice_get_read}
use Rattle.roam_conf.proofs.peer_index.index_at.Goals as goal

pub returns-in-Some : goal.returns-in-Some
returns-in-Some c =
    let indexes = c.args.indexes.now in
    sym (slice_get_read indexes (length indexes) c.args.place c.in-Some.index.now refl
    (omega (arith, c.in-Some.ensures.lookup)) c.in-Some.ensures.lookup.1)

pub returns-in-None : goal.returns-in-None
returns-in-None c = sym (slice_get_past c.args.indexes.now c.args.place (omega (arith, c.in-None.ensures.lookup)))

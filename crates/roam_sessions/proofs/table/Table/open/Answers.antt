use Rattle.std.proofs.Common.{List, [], ◌∷◌, ◌++◌, ap, ◌∙◌, arith}
use Rattle.roam_sessions.specs.Kept.{kept_session}
use Rattle.roam_sessions.specs.Sessions.{Session, within}
use Rattle.roam_sessions.proofs.table.Table.open.Goals as goal

pub make_way-requires-clause-few : goal.make_way-requires-clause-few
make_way-requires-clause-few g c = omega (arith, c.free_twin.ensures.count, c.requires.few)

pub append-requires-clause-room : goal.append-requires-clause-room
append-requires-clause-room g c =
    omega (arith, c.requires.room, c.free_twin.ensures.room, c.make_way.ensures.room)

pub append-requires-clause-absent : goal.append-requires-clause-absent
append-requires-clause-absent g c = λ t at.
    c.free_twin.ensures.absent t (c.make_way.ensures.rows t (kept_session c.args.new.session) at)

pub keep_within-requires-clause-few : goal.keep_within-requires-clause-few
keep_within-requires-clause-few g c = omega (arith, c.append.ensures.count, c.make_way.ensures.few)

pub keep_within-requires-clause-full : goal.keep_within-requires-clause-full
keep_within-requires-clause-full g c = λ is.
    c.append.ensures.left ∙ c.make_way.ensures.full (omega (arith, is, c.append.ensures.count))

pub returns-clause-sessions : goal.returns-clause-sessions
returns-clause-sessions g c =
    let s = kept_session c.args.new.session in
    c.keep_within.ensures.sessions
    ∙ ap (λ (l : List Session). within c.args.limit l)
    (c.append.ensures.sessions
    ∙ ap (λ (l : List Session). l ++ s ∷ []) (c.make_way.ensures.sessions ∙ c.free_twin.ensures.sessions))

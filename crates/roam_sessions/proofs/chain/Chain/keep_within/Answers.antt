use Rattle.std.proofs.Common.{◌∙◌, arith}
use Rattle.roam_sessions.specs.Stands.{sessions_of}
use Rattle.roam_sessions.proofs.SessionLemmas.{full-within, room-within}
use Rattle.roam_sessions.proofs.chain.Chain.keep_within.Goals as goal

pub returns-then-len-limit-clause-sessions : goal.returns-then-len-limit-clause-sessions
returns-then-len-limit-clause-sessions g c =
    c.remove_of_most.ensures.sessions ∙ full-within c.args.limit (sessions_of c.args.self.now)
    (omega (arith, c.if-len-limit.true, c.len.ensures, c.requires.sound.count))

pub returns-else-len-limit-clause-sessions : goal.returns-else-len-limit-clause-sessions
returns-else-len-limit-clause-sessions g c =
    room-within c.args.limit (sessions_of c.args.self.now)
    (omega (arith, c.if-len-limit.false, c.len.ensures, c.requires.sound.count))

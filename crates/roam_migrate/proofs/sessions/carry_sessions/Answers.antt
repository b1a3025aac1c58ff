use Rattle.std.proofs.Common.{◌∙◌, arith, sym}
use Rattle.roam_migrate.proofs.CarriedSessionLemmas.{told_alike, told_otherwise}
use Rattle.roam_migrate.proofs.sessions.carry_sessions.Goals as goal

pub returns-then-tells_alike-clause-sessions : goal.returns-then-tells_alike-clause-sessions
returns-then-tells_alike-clause-sessions g c =
    let limit = c.close_gone.ensures.limit ∙ c.requires.ledger in
    let left = rw c.max_sessions.ensures at c.limit_to.ensures.sessions in
    told_alike c.args.old.now c.args.new.now c.args.numbers.now.sessions.sessions c.close_gone.new.sessions.sessions
    c.limit_to.new.self.sessions (sym c.tells_alike.ensures ∙ c.if-tells_alike.true) c.close_gone.ensures.sessions
    left (omega (arith, c.limit_to.ensures.few, limit))

pub returns-else-tells_alike-clause-sessions : goal.returns-else-tells_alike-clause-sessions
returns-else-tells_alike-clause-sessions g c =
    told_otherwise c.args.old.now c.args.new.now c.args.numbers.now.sessions.sessions c.begin_anew.new.self.sessions
    (sym c.tells_alike.ensures ∙ c.if-tells_alike.false) c.begin_anew.ensures.sessions

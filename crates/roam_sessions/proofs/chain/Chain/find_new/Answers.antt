use Rattle.std.proofs.Common.{subst}
use Rattle.roam_sessions.specs.Private.Tickets.{IsTicketOf}
use Rattle.roam_sessions.specs.Sessions.{Session}
use Rattle.roam_sessions.specs.Stands.{session_at}
use Rattle.roam_sessions.proofs.chain.Chain.find_new.Goals as goal

pub returns : goal.returns
returns g c = λ sound.
    subst (λ (s : Session). IsTicketOf s (session_at c.args.self.now) c.find.result) c.lend.ensures
    (c.find.ensures sound)

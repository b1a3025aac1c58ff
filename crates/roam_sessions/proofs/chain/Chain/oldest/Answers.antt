use Rattle.std.proofs.Common.{ℕ, List, Option, ap}
use Rattle.std.specs.Prelude.{is_some}
use Rattle.roam_sessions.specs.Maps.{linked_by}
use Rattle.roam_sessions.specs.Stands.{session_at}
use Rattle.roam_sessions.proofs.chain.Chain.oldest.Goals as goal

pub returns-clause-agrees : goal.returns-clause-agrees
returns-clause-agrees g c = λ sound none.
    c.oldest.ensures.agrees (session_at c.args.self.now) (linked_by c.args.self.now.by_ticket) sound.of_peer (ap (λ (o : Option (List ℕ)). is_some o) none)

pub returns-clause-first : goal.returns-clause-first
returns-clause-first g c = λ sound none.
    c.oldest.ensures.first (session_at c.args.self.now) (linked_by c.args.self.now.by_ticket) sound.of_peer (ap (λ (o : Option (List ℕ)). is_some o) none)

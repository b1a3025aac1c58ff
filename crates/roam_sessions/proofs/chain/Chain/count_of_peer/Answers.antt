use Rattle.roam_sessions.specs.Maps.{linked_by}
use Rattle.roam_sessions.specs.Stands.{session_at}
use Rattle.roam_sessions.proofs.chain.Chain.count_of_peer.Goals as goal

pub returns : goal.returns
returns g c = λ sound is. c.count.ensures (session_at c.args.self.now) (linked_by c.args.self.now.by_ticket) sound.of_peer is

use Rattle.std.proofs.Common.{arith, sym, ◌∙◌}
use Rattle.roam_port.proofs.ListedLemmas.{sends_one}
use Rattle.roam_port.proofs.queues.send_at.Goals as goal

pub returns : goal.returns
returns g c =
    sends_one g.P.Port.hands c.args.socket c.args.ports.now c.args.queues.now.items c.args.account.now
    c.send-gone.new.account c.index.result.now c.index_mut-queue.result.now c.send-gone.new.self
    c.index-ports-socket.result c.send-gone.new.port c.send-gone.result c.is_aside-is_blocked.result
    (let size = c.len.ensures in let within = c.if-socket-len.false in omega arith) c.requires c.index.ensures
    (sym c.is_listed.ensures ∙ c.if-not-is_listed.false) c.index_mut-queue.ensures.value c.index-ports-socket.is
    c.send-gone.ensures.drains c.send-gone.ensures.share c.is_aside-is_blocked.ensures

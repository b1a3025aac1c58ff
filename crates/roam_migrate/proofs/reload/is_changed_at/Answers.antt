use Rattle.std.proofs.Common.{arith}
use Rattle.roam_reload.proofs.PeerLemmas.{kept_at}
use Rattle.roam_migrate.proofs.reload.is_changed_at.Goals as goal

pub returns-in-None : goal.returns-in-None
returns-in-None c =
    kept_at c.args.old.now c.args.new.now c.args.i c.index-old-i.result c.index-new-i.result (omega arith)
    (omega arith) c.index-old-i.is c.index-new-i.is c.in-None.ensures.none

use Rattle.roam_port.specs.Port.{receive_failed}
use Rattle.roam_port.proofs.listening.listen.Goals as goal

-- The receive failed, and its fault was counted.
pub returns-in-Err-clause-listens : goal.returns-in-Err-clause-listens
returns-in-Err-clause-listens g c =
    record {
      call = receive_failed;
      made = c.in-Err.ensures.call;
      heard = c.after_fault.ensures.heard c.args.at;
    }

use Rattle.roam_conf.specs.Shown.{shown}
use Rattle.roam_sim.specs.Simulation.{IsConfiguration}
use Rattle.roam_cli.specs.CommandFaults.{text_in}
use Rattle.roam_cli.proofs.StateLemmas.{read_fails, stated_anew, state_refused, unstated_fails}
use Rattle.roam_cli.proofs.restating.state_anew.Goals as goal

-- It is refused, or memory is wanting.
pub returns-in-Err-clause-err : goal.returns-in-Err-clause-err
returns-in-Err-clause-err g c =
    let out = g.W.Write.contents c.args.writer.now in
    read_fails c.args.configuration.now out c.in-Err.fault (c.in-Err.ensures.err out)

-- Its text isn't what it should be.
pub returns-in-Err-restated-clause-err : goal.returns-in-Err-restated-clause-err
returns-in-Err-restated-clause-err g c =
    unstated_fails c.args.configuration.now (shown c.in-Ok.config) (g.W.Write.contents c.args.writer.now)
    c.in-Err-restated.fault c.in-Ok.ensures.ok c.in-Err-restated.ensures.err

-- It is printed, or a write is refused.
pub returns-clause-ok : goal.returns-clause-ok
returns-clause-ok g c =
    let same : IsConfiguration c.as_bytes.result.now (shown c.in-Ok.config) =
    rw c.as_bytes.ensures.value c.in-Ok-restated.ensures.ok in
    stated_anew (text_in c.args.configuration.now) c.as_bytes.result.now (shown c.in-Ok.config) _ _
    c.print_octets.result c.in-Ok.ensures.ok same c.print_octets.ensures.ok

pub returns-clause-err : goal.returns-clause-err
returns-clause-err g c =
    state_refused c.args.configuration.now (shown c.in-Ok.config) _ _ c.print_octets.result c.in-Ok.ensures.ok
    c.print_octets.ensures.err

use Rattle.roam_conf.specs.Shown.{shown}
use Rattle.roam_cli.proofs.OutcomeLemmas.{accepted-text, unread-fails}
use Rattle.roam_cli.proofs.compare.configuration_in.Goals as goal

-- the file states the configuration that was read
pub returns-in-Ok-clause-ok : goal.returns-in-Ok-clause-ok
returns-in-Ok-clause-ok c =
    accepted-text c.args.file.now c.as_str.result.now (shown c.in-Ok.config) c.as_str.ensures.value
    c.in-Ok.ensures.ok c.in-Ok.ensures.faultless

-- or it is refused
pub returns-in-Err-clause-err : goal.returns-in-Err-clause-err
returns-in-Err-clause-err c = λ out.
    unread-fails c.args.file.now c.as_str.result.now out c.in-Err.fault c.of_configuration.result c.as_str.ensures.value
    c.in-Err.ensures.err c.of_configuration.ensures.memory c.of_configuration.ensures.refused

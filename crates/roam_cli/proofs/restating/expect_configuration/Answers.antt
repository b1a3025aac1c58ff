use Rattle.std.proofs.Common.{string_bytes}
use Rattle.roam_conf.specs.Shown.{shown}
use Rattle.roam_cli.proofs.StateLemmas.{same_statement}
use Rattle.roam_cli.proofs.restating.expect_configuration.Goals as goal

-- what was read of the text is the configuration
pub returns-then-is_same-clause-ok : goal.returns-then-is_same-clause-ok
returns-then-is_same-clause-ok c =
    same_statement c.as_str.result.now (string_bytes c.args.text) (shown c.in-Ok.read) (shown c.args.config.now)
    c.as_str.ensures.value c.in-Ok.ensures.ok c.in-Ok.ensures.faultless (c.is_same.ensures.0 c.if-is_same.true)

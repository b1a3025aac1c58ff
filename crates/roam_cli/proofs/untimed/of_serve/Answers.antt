-- The last word is no time, and the configuration stands before it.
use Rattle.std.proofs.Common.{inl, refl}
use Rattle.roam_cli.proofs.untimed.of_serve.Goals as goal

pub returns-in_default-None : goal.returns-in_default-None
returns-in_default-None c =
    let value = c.in_default-None.ensures.value in
    (cc, inl (c.args.configuration.now, refl, c.in_default-None.not-text-0))

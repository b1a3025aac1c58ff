-- The last word is no time, and the configuration stands before it.
use Rattle.std.proofs.Common.{inr}
use Rattle.roam_cli.proofs.untimed.of_four.Goals as goal

pub returns-in-serve-text-None : goal.returns-in-serve-text-None
returns-in-serve-text-None c =
    let serve = c.in-serve-text-None.is-serve-0 in
    let option = c.in-serve-text-None.is-text-1 in
    let value = c.in-serve-text-None.ensures.value in
    (cc, inr (c.args.configuration.now, cc))

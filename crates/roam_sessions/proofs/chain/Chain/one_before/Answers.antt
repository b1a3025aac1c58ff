use Rattle.std.proofs.Common.{◌∙◌}
use Rattle.roam_sessions.specs.Maps.{linked_session}
use Rattle.roam_sessions.proofs.NewestLemmas.{found-held, found-none}
use Rattle.roam_sessions.proofs.chain.Chain.one_before.Goals as goal

pub returns-clause-there : goal.returns-clause-there
returns-clause-there g c =
    found-held linked_session c.args.self.now.by_ticket.entries c.as_slice.result.now c.one_below.result
    (c.as_slice.ensures ∙ c.keys.ensures.rest) c.one_below.ensures.within c.one_below.ensures.there

pub returns-clause-none : goal.returns-clause-none
returns-clause-none g c =
    found-none linked_session c.args.self.now.by_ticket.entries c.as_slice.result.now c.args.end c.one_below.result
    (c.as_slice.ensures ∙ c.keys.ensures.rest) c.one_below.ensures.none

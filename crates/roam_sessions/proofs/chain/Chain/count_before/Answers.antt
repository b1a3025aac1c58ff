use Rattle.std.proofs.Common.{ℕ, List, ap, ◌∙◌}
use Rattle.std.specs.Prelude.{nat_lt}
use Rattle.std.specs.List.{count_by}
use Rattle.roam_sessions.specs.Maps.{linked_session}
use Rattle.roam_sessions.proofs.NewestLemmas.{keys-counted}
use Rattle.roam_sessions.proofs.chain.Chain.count_before.Goals as goal

pub returns : goal.returns
returns g c =
    c.count_below.ensures
    ∙ ap (λ (l : List ℕ). count_by (λ (t : ℕ). nat_lt t c.args.ticket) l) (c.as_slice.ensures ∙ c.keys.ensures.rest)
    ∙ keys-counted linked_session c.args.self.now.by_ticket.entries c.args.ticket c.keys.ensures.unique

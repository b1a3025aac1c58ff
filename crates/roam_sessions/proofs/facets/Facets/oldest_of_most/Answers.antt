use Rattle.roam_sessions.proofs.facets.Facets.oldest_of_most.Goals as goal

pub returns : goal.returns
returns g c = c.oldest_of_largest.ensures

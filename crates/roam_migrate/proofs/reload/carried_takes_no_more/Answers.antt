use Rattle.roam_migrate.proofs.CarriedEntriesLemmas.{carried_adds_nothing, carried_takes_no_more}
use Rattle.roam_migrate.proofs.CarriedPlacesLemmas.{carried_has_places}
use Rattle.roam_migrate.proofs.reload.carried_takes_no_more.Goals as goal

pub returns-clause-adds_nothing : goal.returns-clause-adds_nothing
returns-clause-adds_nothing c = carried_adds_nothing

pub returns-clause-takes_no_more : goal.returns-clause-takes_no_more
returns-clause-takes_no_more c = carried_takes_no_more

pub returns-clause-places : goal.returns-clause-places
returns-clause-places c = carried_has_places

use Rattle.roam_migrate.proofs.ReloadLemmas.{go_on}
use Rattle.roam_migrate.proofs.SameBrokerLemmas.{stays_the_same}
use Rattle.roam_migrate.proofs.PlacesLemmas.{places_stay}
use Rattle.roam_migrate.proofs.TakesNothingLemmas.{as_if_nothing_changed, takes_nothing}
use Rattle.roam_migrate.proofs.reload.untouched_realms_go_on.Goals as goal

pub returns-clause-parts : goal.returns-clause-parts
returns-clause-parts c = go_on

pub returns-clause-same : goal.returns-clause-same
returns-clause-same c = stays_the_same

pub returns-clause-state : goal.returns-clause-state
returns-clause-state c = takes_nothing

pub returns-clause-places : goal.returns-clause-places
returns-clause-places c = places_stay

pub returns-clause-over_both : goal.returns-clause-over_both
returns-clause-over_both c = as_if_nothing_changed places_stay

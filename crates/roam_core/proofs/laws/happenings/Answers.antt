use Rattle.roam_core.proofs.EventAgreementLemmas.{events-agree, realm-agrees}
use Rattle.roam_core.proofs.laws.happenings.Goals as goal

pub returns-clause-realm : goal.returns-clause-realm
returns-clause-realm c = realm-agrees

pub returns-clause-all : goal.returns-clause-all
returns-clause-all c = events-agree

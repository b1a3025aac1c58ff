use Rattle.roam_forward.proofs.LawLemmas.{IsSignedRequest-forwarded, HasOne-forwarded_access, authenticator-forwarded_access, first-forwarded}
use Rattle.roam_forward.proofs.forwarding_laws.forwarded_authenticator.Goals as goal

pub returns-clause-signed : goal.returns-clause-signed
returns-clause-signed c = IsSignedRequest-forwarded

pub returns-clause-access_seal : goal.returns-clause-access_seal
returns-clause-access_seal c = HasOne-forwarded_access

pub returns-clause-access_authenticator : goal.returns-clause-access_authenticator
returns-clause-access_authenticator c = authenticator-forwarded_access

pub returns-clause-access_seal_first : goal.returns-clause-access_seal_first
returns-clause-access_seal_first c = first-forwarded

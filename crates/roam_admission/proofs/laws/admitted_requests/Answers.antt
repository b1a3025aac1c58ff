use Rattle.roam_admission.proofs.AdmittedLemmas.{admitted_is_right}
use Rattle.roam_admission.proofs.HopLemmas.{forwarded_has_few_hops}
use Rattle.roam_admission.proofs.RefusedLemmas.{refused_fails_first}
use Rattle.roam_admission.proofs.laws.admitted_requests.Goals as goal

-- the laws are the lemmas
pub returns : goal.returns
returns c = record {
  admitted = admitted_is_right;
  refused = refused_fails_first;
  hops = forwarded_has_few_hops;
}

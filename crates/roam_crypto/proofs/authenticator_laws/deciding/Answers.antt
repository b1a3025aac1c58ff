use Rattle.roam_crypto.proofs.DecidingLemmas.{signed_reply_decided, signed_request_decided, well_sealed_decided}
use Rattle.roam_crypto.proofs.authenticator_laws.deciding.Goals as goal

pub returns : goal.returns
returns c = record {
  signed_reply = signed_reply_decided;
  signed_request = signed_request_decided;
  well_sealed =
      well_sealed_decided;
}

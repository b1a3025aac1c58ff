use Rattle.roam_crypto.proofs.DigestLemmas.{IsPacket-with_authenticator, sixteen-response_authenticator, sixteen-request_authenticator, sixteen-message_authenticator}
use Rattle.roam_crypto.proofs.authenticator_laws.digests.Goals as goal

pub returns : goal.returns
returns c = record {
  response = sixteen-response_authenticator;
  request = sixteen-request_authenticator;
  message =
      sixteen-message_authenticator;
  field = IsPacket-with_authenticator;
}

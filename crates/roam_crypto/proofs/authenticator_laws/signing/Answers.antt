use Rattle.std.proofs.Common.{refl}
use Rattle.roam_crypto.specs.Authenticators.{response_authenticator, request_authenticator}
use Rattle.roam_crypto.proofs.SealLemmas.{IsWellSealed-with_authenticator}
use Rattle.roam_crypto.proofs.DigestLemmas.{IsPacket-signed_reply, IsPacket-signed_request}
use Rattle.roam_crypto.proofs.authenticator_laws.signing.Goals as goal

pub returns-clause-reply : goal.returns-clause-reply
unfolding response_authenticator
returns-clause-reply c = λ secret request_authenticator p. refl

pub returns-clause-request : goal.returns-clause-request
unfolding request_authenticator
returns-clause-request c = λ secret p. refl

pub returns-clause-seal : goal.returns-clause-seal
returns-clause-seal c = IsWellSealed-with_authenticator

pub returns-clause-reply_packet : goal.returns-clause-reply_packet
returns-clause-reply_packet c = IsPacket-signed_reply

pub returns-clause-request_packet : goal.returns-clause-request_packet
returns-clause-request_packet c = IsPacket-signed_request

use Rattle.roam_crypto.specs.MessageAuthenticator.{message_authenticator}
use Rattle.roam_crypto.proofs.ValueLemmas.{packet_length-with_value, IsPacket-with_value, with_value-none}
use Rattle.roam_crypto.proofs.SealLemmas.{IsWellSealed-sealed, IsWellSealed-two}
use Rattle.roam_crypto.proofs.DigestLemmas.{sixteen-message_authenticator, length-message_authenticator}
use Rattle.roam_crypto.proofs.authenticator_laws.sealing.Goals as goal

pub returns-clause-well_sealed : goal.returns-clause-well_sealed
returns-clause-well_sealed c = IsWellSealed-sealed

pub returns-clause-length : goal.returns-clause-length
returns-clause-length c = λ secret authenticator p h.
    packet_length-with_value (message_authenticator secret authenticator p) p
    (length-message_authenticator secret authenticator p) h

pub returns-clause-packet : goal.returns-clause-packet
returns-clause-packet c = λ secret authenticator p h packet.
    IsPacket-with_value (message_authenticator secret authenticator p) p
    (sixteen-message_authenticator secret authenticator p) h packet

pub returns-clause-unsealed : goal.returns-clause-unsealed
returns-clause-unsealed c = λ secret authenticator p none.
    with_value-none (message_authenticator secret authenticator p) p none

pub returns-clause-either : goal.returns-clause-either
returns-clause-either c = IsWellSealed-two

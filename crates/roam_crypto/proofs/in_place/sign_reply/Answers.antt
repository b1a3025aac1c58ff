use Rattle.roam_wire.specs.Reading.{packet_of}
use Rattle.roam_crypto.specs.Authenticators.{response_authenticator}
use Rattle.roam_crypto.proofs.PieceLemmas.{field_written}
use Rattle.roam_crypto.proofs.in_place.sign_reply.Goals as goal

-- the digest stands where the Authenticator stood
pub returns : goal.returns
returns c =
    let digest = response_authenticator c.args.secret.now c.args.request_authenticator (packet_of c.args.octets.now) in
    rw (
      c.put_sixteen.ensures,
      c.response_auth-digest.ensures,
      c.of_packet.ensures,
    ) (field_written digest c.args.octets.now c.requires.packet)

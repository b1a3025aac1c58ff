use Rattle.roam_wire.specs.Reading.{packet_of}
use Rattle.roam_crypto.specs.Authenticators.{request_authenticator}
use Rattle.roam_crypto.proofs.PieceLemmas.{field_written}
use Rattle.roam_crypto.proofs.in_place.sign_request.Goals as goal

-- the digest stands where the Authenticator stood
pub returns : goal.returns
returns c =
    let digest = request_authenticator c.args.secret.now (packet_of c.args.octets.now) in
    rw (
      c.put_sixteen.ensures,
      c.request_auth-digest.ensures,
      c.of_packet.ensures,
    ) (field_written digest c.args.octets.now c.requires.packet)

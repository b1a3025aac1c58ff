-- Each test of Deciding is true just where its fact holds.
use Rattle.std.specs.Prelude.{ℕ, ◌↔◌, List, IsTrue}
use Rattle.roam_wire.specs.Packet.{Packet}
use Rattle.roam_crypto.specs.Authenticators.{IsSignedReply, IsSignedRequest}
use Rattle.roam_crypto.specs.MessageAuthenticator.{IsWellSealed}
use Rattle.roam_crypto.specs.Deciding.{is_signed_reply, is_signed_request, is_well_sealed}

abbrev pub SignedReplyIsDecided : Type 0
SignedReplyIsDecided = (secret request_authenticator : List ℕ) (p : Packet) →
    IsTrue (is_signed_reply secret request_authenticator p)
    ↔ IsSignedReply secret request_authenticator p

abbrev pub SignedRequestIsDecided : Type 0
SignedRequestIsDecided = (secret : List ℕ) (p : Packet) →
    IsTrue (is_signed_request secret p) ↔ IsSignedRequest secret p

abbrev pub WellSealedIsDecided : Type 0
WellSealedIsDecided = (secret : List ℕ) (authenticators : List (List ℕ)) (p : Packet) →
    IsTrue (is_well_sealed secret authenticators p) ↔ IsWellSealed secret authenticators p

-- Laws of the answer to every Status-Server (RFC 5997, section 3). Each law is a clause of a function of src/laws.rt.
use Rattle.std.specs.Prelude.{◌≡◌, ◌≤◌, ℕ, List, [], ◌∷◌}
use Rattle.roam_wire.specs.Packet.{Packet, IsPacket, packet_length, packet_text}
use Rattle.roam_wire.specs.Attributes.{only_kind}
use Rattle.roam_wire.specs.Reading.{ReadsAs}
use Rattle.roam_wire.specs.declared.attribute_type.TheConstants.{PROXY_STATE}
use Rattle.roam_crypto.specs.Authenticators.{IsSignedReply}
use Rattle.roam_crypto.specs.MessageAuthenticator.{HasOneMessageAuthenticator, IsWellSealed, StandsFirst}
use Rattle.roam_conf.specs.declared.place.Place.{Place}
use Rattle.roam_conf.specs.declared.place.Place.TheVariants as place
use Rattle.roam_admission.specs.LocalAnswer.{status_answer}

-- it is an Access-Accept at the one place, and an Accounting-Response at the other (RFC 5997, section 3)
abbrev pub StatusAnswerAtAuth : Type 0
StatusAnswerAtAuth = (nth : ℕ) (secret : List ℕ) (request : Packet) →
    (status_answer (place.Auth nth) secret request).code ≡ 2

abbrev pub StatusAnswerAtAcct : Type 0
StatusAnswerAtAcct = (nth : ℕ) (secret : List ℕ) (request : Packet) →
    (status_answer (place.Acct nth) secret request).code ≡ 5

-- with the request's Identifier (RFC 2865, section 3)
abbrev pub StatusAnswerHasIdentifier : Type 0
StatusAnswerHasIdentifier = (at : Place) (secret : List ℕ) (request : Packet) →
    (status_answer at secret request).id ≡ request.id

-- it is no longer than the request, which has a Message-Authenticator, and so never past 4096 octets
abbrev pub StatusAnswerIsNoLonger : Type 0
StatusAnswerIsNoLonger = (at : Place) (secret : List ℕ) (request : Packet) →
    HasOneMessageAuthenticator request →
    packet_length (status_answer at secret request) ≤ packet_length request

-- it is a packet, and its octets read as it (RFC 2865, section 3)
abbrev pub StatusAnswerReads : Type 0
StatusAnswerReads = (at : Place) (secret : List ℕ) (request : Packet) →
    IsPacket request → HasOneMessageAuthenticator request →
    ReadsAs (packet_text (status_answer at secret request)) (status_answer at secret request)

-- it is signed for the request's Authenticator (RFC 2865, section 3)
abbrev pub StatusAnswerIsSigned : Type 0
StatusAnswerIsSigned = (at : Place) (secret : List ℕ) (request : Packet) →
    IsSignedReply secret request.authenticator (status_answer at secret request)

-- and well sealed for it (RFC 3579, section 3.2)
abbrev pub StatusAnswerIsWellSealed : Type 0
StatusAnswerIsWellSealed = (at : Place) (secret : List ℕ) (request : Packet) →
    IsWellSealed secret (request.authenticator ∷ []) (status_answer at secret request)

-- its seal is its first attribute (ours)
abbrev pub StatusAnswerHasSealFirst : Type 0
StatusAnswerHasSealFirst = (at : Place) (secret : List ℕ) (request : Packet) →
    StandsFirst (status_answer at secret request)

-- it carries the request's Proxy-States, in their order (RFC 2865, section 5.33)
abbrev pub StatusAnswerCarriesProxyStates : Type 0
StatusAnswerCarriesProxyStates = (at : Place) (secret : List ℕ) (request : Packet) →
    only_kind PROXY_STATE (status_answer at secret request).attributes
    ≡ only_kind PROXY_STATE request.attributes

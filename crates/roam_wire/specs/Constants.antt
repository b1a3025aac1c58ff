-- The numbers of codes and attribute types, and the size of the largest packet, as the RFCs give them. Each is a
-- clause of a function of
-- src/laws.rt.
use Rattle.std.specs.Prelude.{◌≡◌, [], ◌∷◌}
use Rattle.roam_wire.specs.declared.attribute_type.TheConstants as kind
use Rattle.roam_wire.specs.declared.code.TheConstants as code
use Rattle.roam_wire.specs.declared.packet_size.TheConstants.{MAX_PACKET_LENGTH}

-- Access-Request, -Accept, -Reject, -Challenge (RFC 2865, section 3), and Status-Server (RFC 5997,
-- section 3)
abbrev pub AccessCodes : Type 0
AccessCodes =
    code.ACCESS_REQUEST ∷ code.ACCESS_ACCEPT ∷ code.ACCESS_REJECT ∷ code.ACCESS_CHALLENGE
    ∷ code.STATUS_SERVER ∷ []
    ≡ 1 ∷ 2 ∷ 3 ∷ 11 ∷ 12 ∷ []

-- Accounting-Request and -Response (RFC 2866, section 3)
abbrev pub AccountingCodes : Type 0
AccountingCodes = code.ACCOUNTING_REQUEST ∷ code.ACCOUNTING_RESPONSE ∷ [] ≡ 4 ∷ 5 ∷ []

-- Disconnect-Request, -ACK, -NAK, and CoA-Request, -ACK, -NAK (RFC 5176, section 2.3)
abbrev pub ReverseCodes : Type 0
ReverseCodes =
    code.DISCONNECT_REQUEST ∷ code.DISCONNECT_ACK ∷ code.DISCONNECT_NAK ∷ code.COA_REQUEST
    ∷ code.COA_ACK ∷ code.COA_NAK ∷ []
    ≡ 40 ∷ 41 ∷ 42 ∷ 43 ∷ 44 ∷ 45 ∷ []

-- User-Name, User-Password, CHAP-Password, NAS-IP-Address, Vendor-Specific, NAS-Identifier, Proxy-State,
-- CHAP-Challenge (RFC 2865, sections 5.1 to 5.4, 5.26, 5.32, 5.33, 5.40)
abbrev pub AccessTypes : Type 0
AccessTypes =
    kind.USER_NAME ∷ kind.USER_PASSWORD ∷ kind.CHAP_PASSWORD ∷ kind.NAS_IP_ADDRESS
    ∷ kind.VENDOR_SPECIFIC ∷ kind.NAS_IDENTIFIER ∷ kind.PROXY_STATE ∷ kind.CHAP_CHALLENGE ∷ []
    ≡ 1 ∷ 2 ∷ 3 ∷ 4 ∷ 26 ∷ 32 ∷ 33 ∷ 60 ∷ []

-- Acct-Status-Type and Acct-Session-Id (RFC 2866, sections 5.1 and 5.5)
abbrev pub AccountingTypes : Type 0
AccountingTypes = kind.ACCT_STATUS_TYPE ∷ kind.ACCT_SESSION_ID ∷ [] ≡ 40 ∷ 44 ∷ []

-- Tunnel-Password (RFC 2868, section 3.5), EAP-Message and Message-Authenticator (RFC 3579, sections
-- 3.1 and 3.2), Chargeable-User-Identity (RFC 4372, section 2.1), Error-Cause (RFC 5176, section 3.5),
-- Operator-Name (RFC 5580, section 4.1)
abbrev pub OtherTypes : Type 0
OtherTypes =
    kind.TUNNEL_PASSWORD ∷ kind.EAP_MESSAGE ∷ kind.MESSAGE_AUTHENTICATOR ∷ kind.CHARGEABLE_USER_IDENTITY
    ∷ kind.ERROR_CAUSE ∷ kind.OPERATOR_NAME ∷ []
    ≡ 69 ∷ 79 ∷ 80 ∷ 89 ∷ 101 ∷ 126 ∷ []

-- the most octets that a packet has (RFC 2865, section 3)
abbrev pub LargestPacket : Type 0
LargestPacket = MAX_PACKET_LENGTH ≡ 4096

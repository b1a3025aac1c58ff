-- The meaning of the codes of packets (RFC 2865 section 4, RFC 2866 section 4, RFC 5176 section 2.3).
use Rattle.std.specs.Prelude.{ℕ, ◌==◌, ◌||◌, Bool}
use Rattle.roam_wire.specs.declared.code.TheConstants.{ACCESS_ACCEPT, ACCESS_REJECT, ACCESS_CHALLENGE, DISCONNECT_REQUEST, DISCONNECT_ACK, DISCONNECT_NAK, COA_REQUEST, COA_ACK, COA_NAK}

-- ## Codes, attribute types
-- The numbers that RFCs give to codes and attribute types, and the size of the largest packet; which codes are
-- Access replies, reverse requests and reverse replies.
-- Source: RFC 2865 sections 3 to 5, RFC 2866 sections 3 and 5, RFC 2868 section 3.5, RFC 3579 section 3, RFC
-- 5176 sections 2.3 and 3.5
-- Rules out: a Disconnect-Request taken for a CoA-Request
-- Stands in: `roam_wire` `Codes.antt`: `is_access_reply`, `is_reverse_request`, `is_reverse_reply`;
-- `Constants.antt`: `AccessCodes`, `AccountingCodes`, `ReverseCodes`, `AccessTypes`, `AccountingTypes`,
-- `OtherTypes`, `LargestPacket`; the laws `numbers_of_codes`, `numbers_of_attribute_types`, `largest_packet`
--
-- Access-Accept, Access-Reject or Access-Challenge (RFC 2865, section 4)
abbrev pub is_access_reply : ℕ → Bool
is_access_reply code = code == ACCESS_ACCEPT || code == ACCESS_REJECT || code == ACCESS_CHALLENGE

-- Disconnect-Request or CoA-Request (RFC 5176, section 2.3), a reverse request
abbrev pub is_reverse_request : ℕ → Bool
is_reverse_request code = code == DISCONNECT_REQUEST || code == COA_REQUEST

-- the answers of an access server to them (RFC 5176, section 2.3)
abbrev pub is_reverse_reply : ℕ → Bool
is_reverse_reply code =
    code == DISCONNECT_ACK || code == DISCONNECT_NAK || code == COA_ACK || code == COA_NAK

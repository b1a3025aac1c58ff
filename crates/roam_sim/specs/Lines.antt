-- The lines that a run prints: one for each packet that leaves. Ours.
use Rattle.std.specs.Prelude.{ℕ, List, ◌++◌, codes, Option, Some, None}
use Rattle.std.specs.Fmt.{decimal}
use Rattle.std.specs.List.{flat_map}
use Rattle.hex.specs.Hex.{encode_lower}
use Rattle.roam_address.specs.Endpoints.{endpoint_text}
use Rattle.roam_address.specs.declared.endpoint.Endpoint.{Endpoint}
use Rattle.roam_conf.specs.PlaceTexts.{nth_text}
use Rattle.roam_conf.specs.declared.place.Place.{Place}
use Rattle.roam_conf.specs.declared.place.Place.TheVariants as place
use Rattle.roam_admission.specs.Admission.{PlainOut}

-- the index of a realm in decimal, or a hyphen where there is none
abbrev pub realm_text : Option ℕ → List ℕ
realm_text (Some realm) = decimal realm
realm_text None = codes "-"

-- one of the broker's sockets
abbrev pub place_text : Place → List ℕ
place_text (place.Auth nth) = codes "auth" ++ nth_text nth
place_text (place.Acct nth) = codes "acct" ++ nth_text nth
place_text (place.Out realm nth) = codes "out:" ++ decimal realm ++ nth_text nth
place_text (place.Reverse realm nth) = codes "reverse:" ++ decimal realm ++ nth_text nth

-- ## Line of a packet
-- The realm's index or `-`, the place that the packet leaves from, where it goes, and its octets in hexadecimal
-- digits of lower case, parted by one space, with a line feed.
-- Source: ours
-- Rules out: a line that two packets share
-- Stands in: `roam_sim` `Lines.antt`: `packet_line`, `lines_of`; `print_packet`
--
-- the line of a packet: for which realm it leaves, from which place, where to, and its octets in
-- hexadecimal digits, with a line feed
abbrev pub packet_line : Option ℕ → Place → Endpoint → List ℕ → List ℕ
packet_line realm from to octets =
    realm_text realm ++ codes " " ++ place_text from ++ codes " " ++ endpoint_text to ++ codes " " ++
    encode_lower octets ++ codes "\n"

-- the line of a packet that leaves, and the lines of packets, in their order
abbrev pub line_of : PlainOut → List ℕ
line_of p = packet_line p.realm p.from p.to p.bytes

abbrev pub lines_of : List PlainOut → List ℕ
lines_of packets = flat_map line_of packets

-- A packet that is built attribute by attribute (RFC 2865, section 5).
use Rattle.std.specs.Prelude.{ℕ, List, [], ◌∷◌, ◌++◌}
use Rattle.roam_wire.specs.Packet.{Packet}

-- a packet without attributes
abbrev pub header_of : ℕ → ℕ → List ℕ → Packet
header_of code id authenticator =
    record { code = code; id = id; authenticator = authenticator; attributes = [] }

-- the packet with one attribute more, behind the others
abbrev pub with_attribute : ℕ → List ℕ → Packet → Packet
with_attribute kind value p =
    record p { attributes = p.attributes ++ record { kind = kind; value = value } ∷ [] }

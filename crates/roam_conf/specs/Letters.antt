-- The letters of the names of peers, of access servers and of realms. Ours.
use Rattle.std.specs.Prelude.{ℕ, ◌==◌, ◌&&◌, ◌||◌, nat_le, Bool, List, length}
use Rattle.std.specs.Char.{is_ascii_alphanumeric}

-- of a peer's name: ASCII letters and digits, the dot (46), the hyphen (45) and the underscore (95)
unfoldable pub is_peer_letter : ℕ → Bool
is_peer_letter octet = is_ascii_alphanumeric octet || octet == 46 || octet == 45 || octet == 95

-- a text of `nas_ids`, as an attribute has room for it
unfoldable pub is_nas_text : List ℕ → Bool
is_nas_text text = nat_le 1 (length text) && nat_le (length text) 253

-- of a realm's name: ASCII letters and digits, the dot and the hyphen
unfoldable pub is_realm_letter : ℕ → Bool
is_realm_letter octet = is_ascii_alphanumeric octet || octet == 46 || octet == 45

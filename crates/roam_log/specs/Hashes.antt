-- The hash of a station (RFC 2104, with SHA-256), and of what it is. Ours.
use Rattle.std.specs.Prelude.{ℕ, ◌+◌, ◌==◌, ◌&&◌, ◌||◌, nat_le, Bool, List, [], ◌∷◌, ◌++◌, length, map, take, bit_xor, if◌then◌else◌}
use Rattle.std.specs.List.{flat_map, list_all}
use Rattle.sha2.specs.Sha256.{sha256}

-- K XOR pad: each octet of the padded key XORed with the pad's (RFC 2104, section 2, steps 2 and 5)
abbrev pub padded_with : ℕ → List ℕ → List ℕ
padded_with pad block = map (λ octet. bit_xor octet pad) block

-- HMAC of a message with SHA-256; the key has zeros behind it to 64 octets; ipad is 0x36, opad 0x5c (section 2)
unfoldable pub hmac_sha256 : List ℕ → List ℕ → List ℕ
hmac_sha256 block message = sha256 (padded_with 0x5c block ++ sha256 (padded_with 0x36 block ++ message))

-- an octet in small letters (65 is `A`, 70 `F`); nothing of a hyphen (45), a full stop (46) or a colon (58)
abbrev pub bare_octet : ℕ → List ℕ
bare_octet octet =
    if octet == 45 || octet == 46 || octet == 58 then []
    else if nat_le 65 octet && nat_le octet 70 then (octet + 32) ∷ []
    else octet ∷ []

abbrev pub bare : List ℕ → List ℕ
bare station = flat_map bare_octet station

-- a hexadecimal digit, in small letters: `0` (48) to `9` (57), `a` (97) to `f` (102)
abbrev pub is_digit : ℕ → Bool
is_digit octet = (nat_le 48 octet && nat_le octet 57) || (nat_le 97 octet && nat_le octet 102)

abbrev pub is_mac : List ℕ → Bool
is_mac octets = length octets == 12 && list_all is_digit octets

-- a MAC address is hashed by its digits, whatever parts them; anything else as it is
abbrev pub hashed_octets : List ℕ → List ℕ
hashed_octets station = if is_mac (bare station) then bare station else station

-- ## Hash of a station
-- The first eight octets of HMAC-SHA-256 with the site's key, of a MAC address in 12 small digits, of anything else as
-- it is.
-- Source: RFC 2104 section 2; ours
-- Rules out: one device that has two hashes, since two access servers write it otherwise
-- Stands in: `roam_log` `Hashes.antt`: `hmac_sha256`, `hash_of`; `StationKey::new`, `hash_of`
--
-- eight octets of it
abbrev pub hash_of : List ℕ → List ℕ → List ℕ
hash_of block station = take 8 (hmac_sha256 block (hashed_octets station))

-- Prefixes of addresses, and their texts (RFC 4632, section 3.1; RFC 4291, section 2.3).
use Rattle.std.specs.Prelude.{◌≡◌, ◌≢◌, ℕ, ◌-◌, ◌%◌, ◌^◌, ◌<◌, ◌==◌, ◌⊎◌, List, ◌++◌, codes, Some, if◌then◌else◌}
use Rattle.std.specs.Fmt.{decimal}
use Rattle.std.specs.Net.Addr.{is_ipv6}
use Rattle.roam_address.specs.declared.address.Address.{Address}
use Rattle.roam_address.specs.declared.leading.Leading.{Leading}
use Rattle.roam_address.specs.declared.prefix.Prefix.{Prefix}
use Rattle.roam_address.specs.Addresses.{ip_of, address_text, IsAddressText}
use Rattle.roam_address.specs.Bits.{width, number, bit, leading}
use Rattle.roam_address.specs.Decimals.{decimal_in}

abbrev pub network_of : Prefix → Address
network_of prefix = prefix.network

abbrev pub length_of : Prefix → ℕ
length_of prefix = prefix.length

-- the bits that count
abbrev pub leading_of : Prefix → Leading
leading_of prefix = leading (length_of prefix) (ip_of (network_of prefix))

-- some bit behind the leftmost ones isn't zero
abbrev pub HasBitBelow : Address → ℕ → Type 0
HasBitBelow network length = number (ip_of network) % 2 ^ (width (ip_of network) - length) ≢ 0

-- the address is in the prefix: it is of its kind, and its leftmost bits are the prefix's, as many as the prefix has
pub record IsIn (prefix : Prefix) (address : Address) : Type 0 where
  pub kind : is_ipv6 (ip_of address) ≡ is_ipv6 (ip_of (network_of prefix))
  pub bits : (k : ℕ) → k < length_of prefix → bit (ip_of address) k ≡ bit (ip_of (network_of prefix)) k

-- an address alone, of which all bits count
pub record IsWholeText (text : List ℕ) (prefix : Prefix) : Type 0 where
  pub states : IsAddressText text (network_of prefix)
  pub all : length_of prefix ≡ width (ip_of (network_of prefix))

-- an address, a slash, and how many of its bits count, as a decimal number without leading zeros
pub record IsPartText (text : List ℕ) (prefix : Prefix) : Type 0 where
  pub address : List ℕ
  pub digits : List ℕ
  pub spelled : text ≡ address ++ codes "/" ++ digits
  pub states : IsAddressText address (network_of prefix)
  pub count : decimal_in 0 (width (ip_of (network_of prefix))) digits ≡ Some (length_of prefix)

-- the text states the prefix; where a bit behind those that count isn't zero, it states none, as no prefix has such
abbrev pub IsPrefixText : List ℕ → Prefix → Type 0
IsPrefixText text prefix = IsWholeText text prefix ⊎ IsPartText text prefix

-- what is printed of a prefix
abbrev pub prefix_text : Prefix → List ℕ
prefix_text prefix =
    if length_of prefix == width (ip_of (network_of prefix)) then address_text (network_of prefix)
    else address_text (network_of prefix) ++ codes "/" ++ decimal (length_of prefix)

-- a prefix as a plain record, for definitions above
pub record PrefixView : Type 0 where
  pub network : Address
  pub length : ℕ

abbrev pub shown_prefix : Prefix → PrefixView
shown_prefix prefix = record { network = network_of prefix; length = length_of prefix }

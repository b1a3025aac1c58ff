-- Addresses of both kinds, and their texts (RFC 4291, section 2.2; RFC 5952, section 4).
use Rattle.std.specs.Prelude.{◌≡◌, ℕ, Bool, List, ◌++◌, Option, Some, None, codes, if◌then◌else◌}
use Rattle.std.specs.declared.net.ip_addr.IpAddr.{IpAddr}
use Rattle.std.specs.declared.net.ip_addr.IpAddr.TheVariants.{V4, V6}
use Rattle.std.specs.Net.Addr.{ipv4_octets, ipv6_octets, ipv6_segments, IsIpv4Mapped, IsIpv4Addr, IsIpv6Addr, MatchIp, is_ipv6}
use Rattle.std.specs.Net.Grammar.{IsIpText}
use Rattle.std.specs.Net.Text.{ipv4_text, hex_groups_text}
use Rattle.roam_address.specs.declared.address.Address.{Address}

-- which address it is
abbrev pub ip_of : Address → IpAddr
ip_of address = address.ip

-- its octets, the most significant first, where it is an address of IPv4; where it is one of IPv6
abbrev pub ipv4_octets_in : IpAddr → Option (List ℕ)
ipv4_octets_in (V4 a) = Some (ipv4_octets a)
ipv4_octets_in (V6 a) = None

abbrev pub ipv6_octets_in : IpAddr → Option (List ℕ)
ipv6_octets_in (V4 a) = None
ipv6_octets_in (V6 a) = Some (ipv6_octets a)

-- an IPv6 address that stands for one of IPv4, of ::ffff:0:0/96 (RFC 4291, section 2.5.5.2)
abbrev pub IsMapped : IpAddr → Type 0
IsMapped (V4 a) = ⊥
IsMapped (V6 a) = IsIpv4Mapped (ipv6_segments a)

-- the numbers of an address are in their ranges, as those of each value are
abbrev pub IsRanged : IpAddr → Type 0
IsRanged ip = MatchIp ip IsIpv4Addr IsIpv6Addr

-- ## Addresses
-- An address is one of IPv4 or of IPv6. Of IPv4 its text is four decimal numbers below 256 without leading zeros,
-- joined by dots. Of IPv6 it is eight groups of one to four hexadecimal digits of either case, joined by colons, or
-- fewer with `::` once, for at least one group of zeros; the last two groups may be written as four decimal numbers.
-- There is no zone. An address that stands for one of IPv4 (`::ffff:0:0/96`) has no text. Printed, it has hexadecimal
-- groups alone. Two addresses are equal just where their kinds and bits are, whatever texts they were read from.
-- Source: RFC 4291 sections 2.2 and 2.5.5.2, RFC 5952 section 4, ours
-- Rules out: `::ffff:192.0.2.1` taken for 192.0.2.1; `::` twice, or for no group; a zone; a leading zero
-- Stands in: `roam_address` `Addresses.antt`: `IsAddressText`, `address_text`; `Address::from_text`, the laws
-- `address_is_read_back`, `equal_texts_are_of_equal_addresses`
--
-- the text states the address (std's `IsDotted` and `IsColonHex`)
pub record IsAddressText (text : List ℕ) (address : Address) : Type 0 where
  pub spelled : IsIpText text (ip_of address)
  pub unmapped : ¬ (IsMapped (ip_of address))

-- what is printed of an address: four decimal numbers, or the groups in hexadecimal alone
abbrev pub ip_text : IpAddr → List ℕ
ip_text (V4 a) = ipv4_text (ipv4_octets a)
ip_text (V6 a) = hex_groups_text (ipv6_segments a)

abbrev pub address_text : Address → List ℕ
address_text address = ip_text (ip_of address)

-- an address of one kind
pub record IsTextOfKind (of_ipv6 : Bool) (text : List ℕ) (address : Address) : Type 0 where
  pub states : IsAddressText text address
  pub kind : is_ipv6 (ip_of address) ≡ of_ipv6

-- a text as it stands in front of a port: that of an IPv6 address in brackets (RFC 3986, section 3.2.2)
abbrev pub as_host : Address → List ℕ → List ℕ
as_host address text = if is_ipv6 (ip_of address) then codes "[" ++ text ++ codes "]" else text

-- the text, as it stands in front of a port, states the address
pub record IsHostText (text : List ℕ) (address : Address) : Type 0 where
  pub inner : List ℕ
  pub spelled : text ≡ as_host address inner
  pub states : IsAddressText inner address

-- The meaning of texts, as functions of them, for definitions above. Ours: that each answers what is stated and nothing
-- else is proved (`from_text`).
use Rattle.std.specs.Prelude.{ℕ, ◌-◌, ◌%◌, ◌^◌, ◌==◌, Bool, false, List, [], ◌∷◌, take, Option, Some, None, option_map, option_and_then, if◌then◌else◌}
use Rattle.std.specs.Option.{option_or}
use Rattle.std.specs.Str.{bytes_eq}
use Rattle.std.specs.declared.net.ip_addr.IpAddr.{IpAddr}
use Rattle.std.specs.declared.net.ip_addr.IpAddr.TheVariants.{V4, V6}
use Rattle.std.specs.Net.Addr.{ipv6_segments}
use Rattle.std.specs.Net.Reader.{read_byte, read_ipv4, read_ipv6, map_or, whole_value}
use Rattle.roam_address.specs.declared.address.Address.{Address}
use Rattle.roam_address.specs.declared.endpoint.Endpoint.{Endpoint}
use Rattle.roam_address.specs.Addresses.{ip_of}
use Rattle.roam_address.specs.Bits.{width, number}
use Rattle.roam_address.specs.Decimals.{decimal_in}
use Rattle.roam_address.specs.Prefixes.{PrefixView}

-- four decimal numbers alone
abbrev pub ipv4_in : List ℕ → Option IpAddr
ipv4_in text = option_map (λ octets. V4 (record { octets = octets })) (whole_value (read_ipv4 text))

-- four decimal numbers, or groups
unfoldable pub ip_in : List ℕ → Option IpAddr
ip_in text =
    option_or (ipv4_in text)
    (option_map (λ groups. V6 (record { segments = groups })) (whole_value (read_ipv6 text)))

-- the groups are those of ::ffff:0:0/96
abbrev pub is_mapped : IpAddr → Bool
is_mapped (V4 a) = false
is_mapped (V6 a) = bytes_eq (take 6 (ipv6_segments a)) (0 ∷ 0 ∷ 0 ∷ 0 ∷ 0 ∷ 0xffff ∷ [])

-- an address, where it doesn't stand for one of IPv4
abbrev pub address_of : IpAddr → Option Address
address_of ip = if is_mapped ip then None else Some (record { ip = ip })

unfoldable pub address_in : List ℕ → Option Address
address_in text = option_and_then address_of (ip_in text)

-- groups, and behind them a bracket (93) and nothing more
abbrev pub closed : List ℕ × List ℕ → Option Address
closed read = if bytes_eq read.1 (93 ∷ []) then address_of (V6 (record { segments = read.0 })) else None

-- an IPv6 address in brackets (91), or an IPv4 address
unfoldable pub host_in : List ℕ → Option Address
host_in text =
    map_or (read_byte 91 text) (option_and_then address_of (ipv4_in text))
    (λ inner. option_and_then closed (read_ipv6 inner))

-- what stands before the last octet that is c, and behind it
abbrev pub cut_last : ℕ → List ℕ → Option (List ℕ × List ℕ)
cut_last c [] = None
cut_last c (x ∷ rest) =
    map_or (cut_last c rest) (if x == c then Some ([], rest) else None) (λ cut. Some (x ∷ cut.0, cut.1))

-- an address and a port, if both are there
abbrev pub endpoint_from : Option Address → Option ℕ → Option Endpoint
endpoint_from (Some ip) (Some port) = Some (record { ip = ip; port = port })
endpoint_from _ _ = None

-- a host, the last colon (58), and a decimal number from 1 to 65535
unfoldable pub endpoint_in : List ℕ → Option Endpoint
endpoint_in text =
    option_and_then (λ cut. endpoint_from (host_in cut.0) (decimal_in 1 65535 cut.1)) (cut_last 58 text)

-- an address alone: all its bits count
abbrev pub whole : Address → PrefixView
whole address = record { network = address; length = width (ip_of address) }

-- a network and how many bits count, where the others are zero
abbrev pub network_with : Address → ℕ → Option PrefixView
network_with network length =
    if number (ip_of network) % 2 ^ (width (ip_of network) - length) == 0
    then Some (record { network = network; length = length }) else None

abbrev pub part : Option Address → List ℕ → Option PrefixView
part None digits = None
part (Some network) digits =
    option_and_then (network_with network) (decimal_in 0 (width (ip_of network)) digits)

-- an address alone, or one, the last slash (47), and how many bits count
abbrev pub whole_or_part : Option Address → Option (List ℕ × List ℕ) → Option PrefixView
whole_or_part (Some address) cut = Some (whole address)
whole_or_part None cut = option_and_then (λ parts. part (address_in parts.0) parts.1) cut

unfoldable pub prefix_in : List ℕ → Option PrefixView
prefix_in text = whole_or_part (address_in text) (cut_last 47 text)

-- The bits of an address, in network order.
use Rattle.std.specs.Prelude.{ℕ, ◌-◌, ◌/◌, ◌%◌, ◌^◌}
use Rattle.std.specs.declared.net.ip_addr.IpAddr.{IpAddr}
use Rattle.std.specs.declared.net.ip_addr.IpAddr.TheVariants.{V4, V6}
use Rattle.std.specs.Net.Addr.{ipv4_bits, ipv6_bits, is_ipv6}
use Rattle.roam_address.specs.declared.leading.Leading.{Leading}

-- how many bits an address has (RFC 791, section 2.3; RFC 4291, section 2)
abbrev pub width : IpAddr → ℕ
width (V4 a) = 32
width (V6 a) = 128

-- the number that its octets are, the most significant first
abbrev pub number : IpAddr → ℕ
number (V4 a) = ipv4_bits a
number (V6 a) = ipv6_bits a

-- the bit at a place, counted from 0 at the most significant
abbrev pub bit : IpAddr → ℕ → ℕ
bit ip k = number ip / 2 ^ (width ip - 1 - k) % 2

-- the leftmost bits of an address, so many of them: its kind, their number, and the number that they are
abbrev pub leading : ℕ → IpAddr → Leading
leading length ip = record {
  is_ipv6 = is_ipv6 ip;
  length = length;
  bits = number ip / 2 ^ (width ip - length) % 2 ^ length;
}

-- The sameness of two addresses, and of two prefixes, and the longest prefix that has an address, as functions, for
-- definitions above. Ours: that these answer what `IsIn` and `IsLongestMatch` say is proved (`Prefix::has`,
-- `PrefixIndex::longest`).
use Rattle.std.specs.Prelude.{ℕ, ◌&&◌, ◌||◌, not, nat_le, Bool, List, Option}
use Rattle.std.specs.List.{list_all, position_from}
use Rattle.roam_address.specs.contracts.address.AddressPartialEq.TheImpl as addresses
use Rattle.roam_address.specs.contracts.leading.LeadingPartialEq.TheImpl as leadings
use Rattle.roam_address.specs.declared.address.Address.{Address}
use Rattle.roam_address.specs.declared.leading.Leading.{Leading}
use Rattle.roam_address.specs.Addresses.{ip_of}
use Rattle.roam_address.specs.Bits.{leading}
use Rattle.roam_address.specs.Prefixes.{PrefixView}

-- the same kind, and the same bits
abbrev pub same_address : Address → Address → Bool
same_address a b = (addresses.ghosts).eq a b

-- the bits of a prefix that count
abbrev pub bits_of : PrefixView → Leading
bits_of prefix = leading prefix.length (ip_of prefix.network)

-- as many bits count, of addresses of one kind, and these are the same
abbrev pub same_prefix : PrefixView → PrefixView → Bool
same_prefix a b = (leadings.ghosts).eq (bits_of a) (bits_of b)

-- the prefix has the address
abbrev pub is_in : Address → PrefixView → Bool
is_in address prefix = (leadings.ghosts).eq (leading prefix.length (ip_of address)) (bits_of prefix)

-- the prefix isn't longer than so many bits, or hasn't the address
abbrev pub is_no_longer : Address → ℕ → PrefixView → Bool
is_no_longer address length prefix = not (is_in address prefix) || nat_le prefix.length length

-- the prefix has the address, and none of these that has it is longer
abbrev pub is_longest : List PrefixView → Address → PrefixView → Bool
is_longest prefixes address prefix =
    is_in address prefix && list_all (is_no_longer address prefix.length) prefixes

-- the place, from 0, of the longest prefix that has the address
unfoldable pub longest_place : List PrefixView → Address → Option ℕ
longest_place prefixes address = position_from (is_longest prefixes address) 0 prefixes

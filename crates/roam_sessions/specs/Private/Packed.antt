-- The parts of a session behind one another (ours).
use Rattle.std.specs.Prelude.{ℕ, ◌+◌, ◌≤◌, List, [], length, take, drop, Option, Some, None}
use Rattle.roam_sessions.specs.Sessions.{Session}

-- a part's octets, none where it isn't there
abbrev pub octets_of : Option (List ℕ) → List ℕ
octets_of None = []
octets_of (Some octets) = octets

-- how many those are, where it is there
abbrev pub size_of : Option (List ℕ) → Option ℕ
size_of None = None
size_of (Some octets) = Some (length octets)

abbrev pub count_of : Option ℕ → ℕ
count_of None = 0
count_of (Some size) = size

-- a part of so many octets in front of others, and what is behind it
abbrev pub front_of : Option ℕ → List ℕ → Option (List ℕ)
front_of None octets = None
front_of (Some size) octets = Some (take size octets)

abbrev pub behind : Option ℕ → List ℕ → List ℕ
behind None octets = octets
behind (Some size) octets = drop size octets

-- the session whose names take so many octets in front, and whose id takes the others
abbrev pub session_in : ℕ → Option ℕ → Option ℕ → Option ℕ → List ℕ → Session
session_in peer address identifier ipv6 octets = record {
  peer = peer;
  nas = record {
    address = front_of address octets;
    identifier = front_of identifier (behind address octets);
    ipv6 = front_of ipv6 (behind identifier (behind address octets));
  };
  id = behind ipv6 (behind identifier (behind address octets));
}

-- the octets are enough for each part, and an attribute has room for each (RFC 2865, section 5)
pub record AreParts (address identifier ipv6 : Option ℕ) (octets : List ℕ) : Type 0 where
  pub short_address : count_of address ≤ 253
  pub short_identifier : count_of identifier ≤ 253
  pub short_ipv6 : count_of ipv6 ≤ 253
  pub names : count_of address + count_of identifier + count_of ipv6 ≤ length octets
  pub short_id : length octets ≤ count_of address + count_of identifier + count_of ipv6 + 253

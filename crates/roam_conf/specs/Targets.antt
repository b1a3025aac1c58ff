-- The peer that the names in a Disconnect- or CoA-Request mean (RFC 5176, section 3; RFC 8559; the patterns are ours).
use Rattle.std.specs.Prelude.{◌≡◌, ◌≢◌, ℕ, zero, suc, ◌-◌, ◌==◌, ◌&&◌, nat_le, Bool, false, if◌then◌else◌, List, [], ◌∷◌, ◌++◌, length, map, take, slice_index, Option, Some, is_some}
use Rattle.std.specs.List.{list_any}
use Rattle.std.specs.Option.{option_to_list}
use Rattle.std.specs.Str.{bytes_eq}
use Rattle.roam_conf.specs.Config.{PeerView}
use Rattle.roam_conf.specs.Duplicates.{same_if_there}
use Rattle.roam_conf.specs.Lookup.{first_place, first_answer}
use Rattle.roam_conf.specs.Operators.{same_operator_if_there}

-- the NAS-Identifiers of a peer: one, or all that begin with some octets
pub data NasPattern : Type 0 where
  exactly : List ℕ → NasPattern
  begins : List ℕ → NasPattern

-- the text ends in `*` (42), behind at least one octet
abbrev pub is_front : List ℕ → Bool
is_front text = nat_le 2 (length text) && slice_index text (length text - 1) == 42

-- what a text of `nas_ids` says
abbrev pub nas_said : List ℕ → NasPattern
nas_said text = if is_front text then begins (take (length text - 1) text) else exactly text

-- all NAS-Identifiers of a peer: its `nas_id` as it stands, and what its `nas_ids` say
abbrev pub nas_patterns : PeerView → List NasPattern
nas_patterns peer = map exactly (option_to_list peer.nas_id) ++ map nas_said peer.nas_ids

-- the same kind, and the same octets
abbrev pub same_nas : NasPattern → NasPattern → Bool
same_nas (exactly a) (exactly b) = bytes_eq a b
same_nas (begins a) (begins b) = bytes_eq a b
same_nas _ _ = false

-- whose a pattern is: the first peer's that has it, and in a configuration the only one's
abbrev pub has_nas : NasPattern → PeerView → Bool
has_nas pattern peer = list_any (same_nas pattern) (nas_patterns peer)

unfoldable pub peer_with_nas : List PeerView → NasPattern → Option ℕ
peer_with_nas peers pattern = first_place (has_nas pattern) peers

-- what a name begins with, up to so many octets; up to all of them: the longest first, each of at least one octet
abbrev pub fronts_to : ℕ → List ℕ → List (List ℕ)
fronts_to zero name = []
fronts_to (suc n) name = take (suc n) name ∷ fronts_to n name

abbrev pub fronts : List ℕ → List (List ℕ)
fronts name = fronts_to (length name) name

-- ## Peer of a NAS-Identifier
-- The peer among whose `nas_id` and `nas_ids` it stands; else the one with the longest text of `nas_ids` that ends in
-- `*` and before it has what the NAS-Identifier begins with, an octet at least. A text of `nas_ids` that ends in `*`
-- and has two octets or more is such a pattern and nothing else. Octets are compared as they stand.
-- Source: RFC 2865 section 5.32; the patterns are ours
-- Rules out: a pattern that beats a whole text; the shorter pattern; a name that is found by its `*`
-- Stands in: `roam_conf` `Targets.antt`: `peer_meant`; `peer_meant`, the laws `whole_identifier_comes_first`,
-- `longest_front_comes_next`
--
-- the peer that a NAS-Identifier means
unfoldable pub peer_meant : List PeerView → List ℕ → Option ℕ
peer_meant peers name = first_answer (peer_with_nas peers) (exactly name ∷ map begins (fronts name))

-- the name begins with the front, which has at least one octet
abbrev pub BeginsWith : List ℕ → List ℕ → Type 0
BeginsWith name front = (rest : List ℕ) × (front ≢ []) × (name ≡ front ++ rest)

-- the peer with this NAS-IP-Address
unfoldable pub peer_with_nas_ip : List PeerView → List ℕ → Option ℕ
peer_with_nas_ip peers ip = first_place (λ peer. same_if_there peer.nas_ip (Some ip)) peers

-- the peer with this NAS-IPv6-Address
unfoldable pub peer_with_nas_ipv6 : List PeerView → List ℕ → Option ℕ
peer_with_nas_ipv6 peers ip = first_place (λ peer. same_if_there peer.nas_ipv6 (Some ip)) peers

-- some peer has a `nas_ipv6`
abbrev pub some_nas_ipv6 : List PeerView → Bool
some_nas_ipv6 peers = list_any (λ peer. is_some peer.nas_ipv6) peers

-- the peer whose Operator-Name means the same as this value
unfoldable pub peer_with_operator : List PeerView → List ℕ → Option ℕ
peer_with_operator peers value = first_place (λ peer. same_operator_if_there peer.operator_name (Some value)) peers

-- some peer has an Operator-Name
abbrev pub some_operator : List PeerView → Bool
some_operator peers = list_any (λ peer. is_some peer.operator_name) peers

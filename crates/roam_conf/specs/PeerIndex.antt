-- The index of the addresses of peers. Ours.
use Rattle.std.specs.Prelude.{◌≡◌, ℕ, ◌+◌, not, if◌then◌else◌, Bool, List, [], ◌∷◌, ◌++◌, filter, length, replicate}
use Rattle.std.specs.List.{flat_map}
use Rattle.roam_address.specs.declared.prefix.Prefix.{Prefix}
use Rattle.roam_address.specs.Stands.{StandsFor}
use Rattle.roam_conf.specs.declared.peer.Peer.{Peer}
use Rattle.roam_conf.specs.declared.peer_index.PeerIndex.{PeerIndex}

-- the prefixes of a peer; whether it is here; the prefixes of those that are
abbrev pub peer_prefixes : Peer → List Prefix
peer_prefixes peer = peer.ips.items

abbrev pub is_peer_present : Peer → Bool
is_peer_present peer = not peer.gone

abbrev pub prefixes_in : List Peer → List Prefix
prefixes_in peers = flat_map peer_prefixes (filter is_peer_present peers)

-- the index of each of their prefixes' peers, where the first of these peers has this one
abbrev pub places_in : ℕ → List Peer → List ℕ
places_in i [] = []
places_in i (peer ∷ rest) =
    if peer.gone then places_in (i + 1) rest
    else replicate (length peer.ips.items) i ++ places_in (i + 1) rest

-- the index has the prefixes of the peers that are here, and for each the index of its peer
pub record FindsPeers (index : PeerIndex) (peers : List Peer) : Type 0 where
  pub prefixes : StandsFor index.prefixes (prefixes_in peers)
  pub places : index.places.items ≡ places_in 0 peers

-- The part of a realm's session table that is kept from one run of a server to the next, and what is taken up again
-- (ours).
use Rattle.std.specs.Prelude.{◌≡◌, ◌&&◌, not, nat_le, Bool, true, false, List, [], ◌∷◌, length, map, Option, Some, None, option_map, slice_get, if◌then◌else◌}
use Rattle.std.specs.List.{AllByRecursion, filter_map}
use Rattle.std.specs.Option.{option_map_or}
use Rattle.std.specs.Str.{bytes_eq}
use Rattle.roam_conf.specs.Config.{PeerView}
use Rattle.roam_conf.specs.Duplicates.{has_duplicate_peer}
use Rattle.roam_conf.specs.Lookup.{first_place}
use Rattle.roam_sessions.specs.Ledgers.{SavedItem, SavedSession, realm, session}
use Rattle.roam_reload.specs.Kept.{same_values}
use Rattle.roam_sessions.specs.Parts.{AreShort}
use Rattle.roam_sessions.specs.Sessions.{IsLedger, Session, with_session}
use Rattle.roam_realm.specs.RealmConfig.{RealmConfig}

-- a session by the name of its peer
abbrev pub saved_session : List PeerView → Session → Option SavedSession
saved_session peers s =
    option_map
    (λ p. record {
      peer = p.name;
      address = s.nas.address;
      identifier = s.nas.identifier;
      ipv6 = s.nas.ipv6;
      id = s.id;
    })
    (slice_get peers s.peer)

abbrev pub saved : RealmConfig → List Session → List SavedSession
saved c ss = filter_map (saved_session c.peers) ss

-- what a file has of a realm: its name, and its sessions, the oldest first
abbrev pub saved_items : RealmConfig → List Session → List SavedItem
saved_items c ss = realm c.realm.name c.realm.own_sessions ∷ map session (saved c ss)

-- an attribute has room for each part (RFC 2865, section 5)
abbrev pub are_short : SavedSession → Bool
are_short s =
    option_map_or (λ octets. nat_le (length octets) 253) s.address true
    && option_map_or (λ octets. nat_le (length octets) 253) s.identifier true
    && option_map_or (λ octets. nat_le (length octets) 253) s.ipv6 true && nat_le (length s.id) 253

-- a session that was saved, of the peer that has that name now, if one has
abbrev pub session_named : List PeerView → SavedSession → Option Session
session_named peers s =
    if are_short s
    then option_map
    (λ peer. record {
      peer = peer;
      nas = record { address = s.address; identifier = s.identifier; ipv6 = s.ipv6 };
      id = s.id;
    })
    (first_place (λ p. not p.gone && bytes_eq p.name s.peer) peers)
    else None

-- a ledger with those that were saved, one after the other
abbrev pub taken_up : RealmConfig → List SavedSession → List Session → List Session
taken_up c [] ss = ss
taken_up c (s ∷ more) ss =
    taken_up c more
    (option_map_or (λ own. with_session c.realm.max_sessions own ss) (session_named c.peers s) ss)

-- ## Sessions over a restart
-- What a file of ledgers has of a realm by its name is taken up at a start: in their order those sessions whose peer's
-- name is a peer's, as by an accounting request each; none where the realm tells its sessions otherwise now. Of the
-- same configuration the ledger is then the one that was saved.
-- Source: ours
-- Rules out: a session under a peer that stands at the number of another; a ledger that holds more than it may
-- Stands in: `roam_realm` `Saving.antt`: `restored`, `saved`, `RestoredIsSaved`; `RealmNumbers::restore`; the law
-- `restored_is_saved`
--
abbrev pub restored : RealmConfig → Bool → List SavedSession → List Session
restored c own ss = if same_values own c.realm.own_sessions then taken_up c ss [] else []

-- each session is of a peer that is here, and an attribute has room for its parts
abbrev pub AreOfPeers : RealmConfig → List Session → Type 0
AreOfPeers c ss =
    AllByRecursion
    (λ s. (p : PeerView) × (slice_get c.peers s.peer ≡ Some p) × (p.gone ≡ false) × AreShort s) ss

abbrev pub RestoredIsSaved : Type 0
RestoredIsSaved =
    (c : RealmConfig) (ss : List Session) → has_duplicate_peer c.peers ≡ false
    → IsLedger c.realm.max_sessions ss → AreOfPeers c ss → restored c c.realm.own_sessions (saved c ss) ≡ ss

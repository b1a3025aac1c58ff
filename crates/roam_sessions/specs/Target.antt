-- The access server that a reverse request is for (RFC 5176, section 3: NAS-IP-Address, NAS-IPv6-Address and
-- NAS-Identifier name it; RFC 8559: Operator-Name names the network that it is in).
use Rattle.std.specs.Prelude.{ℕ, ◌==◌, Bool, false, List, Option, Some, None, slice_get, if◌then◌else◌}
use Rattle.std.specs.Option.{is_some, option_map_or}
use Rattle.roam_wire.specs.Packet.{Attribute}
use Rattle.roam_wire.specs.Attributes.{first_value}
use Rattle.roam_wire.specs.declared.attribute_type.TheConstants.{OPERATOR_NAME}
use Rattle.roam_conf.specs.Asking.{both_pass, is_target_of}
use Rattle.roam_conf.specs.Config.{PeerView, RealmView}
use Rattle.roam_conf.specs.Targets.{peer_meant, peer_with_nas_ip, peer_with_nas_ipv6, peer_with_operator, some_nas_ipv6, some_operator}
use Rattle.roam_admission.specs.UserName.{nas_of}
use Rattle.roam_sessions.specs.declared.nas_target.TheConstants.{NAS_IPV6_ADDRESS}

-- one peer, where both are that one
abbrev pub same_peer : Option ℕ → Option ℕ → Option ℕ
same_peer (Some a) (Some b) = if a == b then Some a else None
same_peer _ _ = None

-- the peer that a packet's NAS-IP-Address and NAS-Identifier name: what stands there names it, both where both do. An
-- address of a peer has four octets, so a NAS-IP-Address of another size names none (RFC 2865, sections 5.4 and 5.32)
abbrev pub peer_of_nas : List PeerView → Option (List ℕ) × Option (List ℕ) → Option ℕ
peer_of_nas peers (None, None) = None
peer_of_nas peers (Some ip, None) = peer_with_nas_ip peers ip
peer_of_nas peers (None, Some name) = peer_meant peers name
peer_of_nas peers (Some ip, Some name) = same_peer (peer_with_nas_ip peers ip) (peer_meant peers name)

-- and a NAS-IPv6-Address: it names the peer too, where it stands there. That of a peer has sixteen octets, so one of
-- another size names none (RFC 3162, section 2.1)
abbrev pub peer_of_names : List PeerView → Option (List ℕ) × Option (List ℕ) → Option (List ℕ) → Option ℕ
peer_of_names peers names None = peer_of_nas peers names
peer_of_names peers (None, None) (Some ip) = peer_with_nas_ipv6 peers ip
peer_of_names peers names (Some ip) = same_peer (peer_of_nas peers names) (peer_with_nas_ipv6 peers ip)

-- the NAS-IPv6-Address of a packet, which isn't looked at where no peer has a `nas_ipv6`
abbrev pub ipv6_of : List PeerView → List Attribute → Option (List ℕ)
ipv6_of peers attributes = if some_nas_ipv6 peers then first_value NAS_IPV6_ADDRESS attributes else None

-- the peer that is named: by the Operator-Name where there is one and some peer has one, whatever its namespace, else
-- by the names of the access server
abbrev pub peer_named :
    List PeerView → Option (List ℕ) → Option (List ℕ) × Option (List ℕ) → Option (List ℕ) → Option ℕ
peer_named peers None names ipv6 = peer_of_names peers names ipv6
peer_named peers (Some operator) names ipv6 =
    if some_operator peers then peer_with_operator peers operator else peer_of_names peers names ipv6

-- the peer takes reverse requests
abbrev pub has_coa : List PeerView → ℕ → Bool
has_coa peers index = option_map_or (λ peer. is_some peer.coa) (slice_get peers index) false

abbrev pub with_coa : List PeerView → Option ℕ → Option ℕ
with_coa peers None = None
with_coa peers (Some index) = if has_coa peers index then Some index else None

-- ## Target of a reverse request
-- Where the request has an Operator-Name and some peer has one, the peer whose Operator-Name means the same, namespace
-- and name together: it is equal, in namespace REALM without ASCII case. The names of the access server aren't looked
-- at then. Else the peer whose `nas_ip` is
-- the NAS-IP-Address, whose `nas_ipv6` is the NAS-IPv6-Address, where some peer has one, and which the NAS-Identifier
-- means, where they stand there; one of them does at least. The first attribute of each type counts. It is a target
-- where it has `coa`, of the same kind as the realm's `out`, and the realm has no list of peers or the peer is among
-- them.
-- Source: RFC 8559 sections 3 and 4, RFC 5580 section 4.1, RFC 5176 section 3, RFC 3162 section 2.1, RFC 2865
-- sections 5.4 and 5.32; that an Operator-Name comes first, and what a NAS-Identifier means, is ours
-- Rules out: a peer that agrees in one name of several; one of the same name in another namespace; any peer where
-- nothing is named; an access server's name that
-- beats the Operator-Name
-- Stands in: `roam_sessions` `Target.antt`: `peer_named`, `target`, `target_in`; `target`, `route_of`, the laws
-- `target_is_named`, `forwarded_has_target`
--
-- the peer that a reverse request is for: the one that is named, where it takes such requests
unfoldable pub target : List PeerView → List Attribute → Option ℕ
target peers attributes =
    with_coa peers
    (peer_named peers (first_value OPERATOR_NAME attributes) (nas_of attributes) (ipv6_of peers attributes))

-- whether reverse requests of the realm may go to the peer of an index
abbrev pub is_among : Option RealmView → List PeerView → ℕ → Bool
is_among realm peers index = both_pass is_target_of realm (slice_get peers index)

-- a peer to which they may go
abbrev pub among : Option RealmView → List PeerView → Option ℕ → Option ℕ
among realm peers None = None
among realm peers (Some index) = if is_among realm peers index then Some index else None

-- the peer that a reverse request to a realm is for
abbrev pub target_in : Option RealmView → List PeerView → List Attribute → Option ℕ
target_in realm peers attributes = among realm peers (target peers attributes)

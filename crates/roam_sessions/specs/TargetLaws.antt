-- Laws of the access server that a reverse request is for (ours). Each is what a function of `laws`
-- ensures.
use Rattle.std.specs.Prelude.{◌≡◌, ℕ, true, List, Some, None, slice_get, is_some}
use Rattle.roam_wire.specs.Packet.{Attribute}
use Rattle.roam_wire.specs.Attributes.{first_value}
use Rattle.roam_wire.specs.declared.attribute_type.TheConstants.{NAS_IDENTIFIER, NAS_IP_ADDRESS, OPERATOR_NAME}
use Rattle.roam_conf.specs.Config.{PeerView}
use Rattle.roam_conf.specs.Targets.{peer_meant, peer_with_nas_ip, peer_with_nas_ipv6, peer_with_operator, some_operator}
use Rattle.roam_admission.specs.UserName.{nas_of}
use Rattle.roam_sessions.specs.Target.{ipv6_of, target}

-- what is found is a peer that takes reverse requests
abbrev pub TargetTakesRequests : Type 0
TargetTakesRequests = (peers : List PeerView) (attributes : List Attribute) (index : ℕ)
    → target peers attributes ≡ Some index
    → (peer : PeerView) × (slice_get peers index ≡ Some peer) × (is_some peer.coa ≡ true)

-- where an Operator-Name counts, the target is the peer that it names
abbrev pub OperatorNamesTheTarget : Type 0
OperatorNamesTheTarget = (peers : List PeerView) (attributes : List Attribute) (operator : List ℕ) (index : ℕ)
    → first_value OPERATOR_NAME attributes ≡ Some operator → some_operator peers ≡ true
    → target peers attributes ≡ Some index
    → peer_with_operator peers operator ≡ Some index

-- where there is none, each name of an access server that stands there names the target
abbrev pub NamesAreTheTargets : Type 0
NamesAreTheTargets = (peers : List PeerView) (attributes : List Attribute) (index : ℕ)
    → first_value OPERATOR_NAME attributes ≡ None
    → target peers attributes ≡ Some index
    → ((ip : List ℕ) → first_value NAS_IP_ADDRESS attributes ≡ Some ip → peer_with_nas_ip peers ip ≡ Some index)
    × ((name : List ℕ) → first_value NAS_IDENTIFIER attributes ≡ Some name → peer_meant peers name ≡ Some index)
    × ((ip : List ℕ) → ipv6_of peers attributes ≡ Some ip → peer_with_nas_ipv6 peers ip ≡ Some index)

-- a packet without Operator-Name, NAS-IP-Address, NAS-Identifier and, where it is looked at, NAS-IPv6-Address is for no
-- peer
abbrev pub NamelessIsForNone : Type 0
NamelessIsForNone = (peers : List PeerView) (attributes : List Attribute)
    → first_value OPERATOR_NAME attributes ≡ None → nas_of attributes ≡ (None, None)
    → ipv6_of peers attributes ≡ None → target peers attributes ≡ None

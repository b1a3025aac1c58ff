-- Who sent a packet is configured, and so is the realm of its place, or the one that it names.
use Rattle.std.proofs.Common.{◌≡◌, ◌<◌, ℕ, ◌+◌, ◌⊎◌, Bool, true, false, cond, List, [], ◌∷◌, length, Option, Some, None, inl, inr, refl, ap, arith}
use Rattle.std.specs.Prelude.{option_map, option_and_then, slice_get}
use Rattle.std.specs.List.{position_from}
use Rattle.std.proofs.lemmas.Option.{option_and_then_some, slice_get_within}
use Rattle.roam_address.specs.declared.address.Address.{Address}
use Rattle.roam_address.specs.declared.endpoint.Endpoint.{Endpoint}
use Rattle.roam_wire.specs.Packet.{Attribute}
use Rattle.roam_wire.specs.Attributes.{first_value}
use Rattle.roam_wire.specs.declared.attribute_type.TheConstants.{USER_NAME}
use Rattle.roam_conf.specs.Config.{ConfigView, PeerView, RealmView}
use Rattle.roam_conf.specs.Lookup.{asker_at, realm_named, peer_with_ip, link_at, link_in, home_in, reverse_home}
use Rattle.roam_conf.specs.declared.place.Link.{Link}
use Rattle.roam_conf.specs.declared.place.Place.TheVariants as place
use Rattle.roam_conf.proofs.LookupLaws.{realm_named_within}
use Rattle.roam_conf.proofs.OneLinkLemmas.{link_in_bound, home_in_bound}
use Rattle.roam_admission.specs.UserName.{realm_of, realm_part}
use Rattle.roam_admission.specs.Admission.{Arrival, sender}
use Rattle.roam_admission.specs.Events.{IsConfigured}
use Rattle.roam_admission.specs.declared.job.Side.TheVariants as side

either_some : (b : Bool) (i x : ℕ) (rest : Option ℕ) → cond b (Some i) rest ≡ Some x
    → (i ≡ x) ⊎ (rest ≡ Some x)
either_some true i x rest h = inl (cc)
either_some false i x rest h = inr h

-- a place that is found lies within the list
position_within : {K : Type 0} → (test : K → Bool) (i : ℕ) (xs : List K) (x : ℕ)
    → position_from test i xs ≡ Some x → x < i + length xs
position_within test i [] x h = absurd (cc)
position_within test i (y ∷ ys) x h =
    elim (either_some (test y) i x (position_from test (i + 1) ys) h) [
      | inl same ↦ omega arith
      | inr later ↦ let within = position_within test (i + 1) ys x later in omega arith
    ]

peer_within : (peers : List PeerView) (ip : Address) (i : ℕ) → peer_with_ip peers ip ≡ Some i
    → i < length peers
unfolding peer_with_ip
peer_within peers ip i h = let within = position_within _ 0 peers i h in omega arith

-- the realm that a request names is configured
pub realm_of_within : (config : ConfigView) (attributes : List Attribute) (x : ℕ)
    → realm_of config attributes ≡ Some x → x < length config.realms
realm_of_within config attributes x h =
    let part = option_and_then realm_part (first_value USER_NAME attributes) in
    option_and_then_some (realm_named config) part x h
    (λ name found then. realm_named_within config name x then)

-- what a look-up in a thing that may be there found, it found in that thing
there : {X Y : Type 0} → (g : X → Option Y) (o : Option X) (y : Y) → option_and_then g o ≡ Some y
    → (x : X) × (o ≡ Some x)
there g None y h = absurd (cc h)
there g (Some x) y h = (x, refl)

peer_found : (o : Option ℕ) (i : ℕ) → option_map (λ n. side.Peer n) o ≡ Some (side.Peer i)
    → o ≡ Some i
peer_found None i h = absurd (cc h)
peer_found (Some n) i h = let k : n ≡ i = cc h in ap (λ (m : ℕ). Some m) k

home_found : (o : Option ℕ) (i : ℕ) → option_map (λ n. side.Home n) o ≡ Some (side.Home i)
    → o ≡ Some i
home_found None i h = absurd (cc h)
home_found (Some n) i h = let k : n ≡ i = cc h in ap (λ (m : ℕ). Some m) k

link_found : (o : Option Link) (l : Link) → option_map (λ x. side.Link x) o ≡ Some (side.Link l)
    → o ≡ Some l
link_found None l h = absurd (cc h)
link_found (Some x) l h = let k : x ≡ l = cc h in ap (λ (m : Link). Some m) k

-- what was found by a look-up that looks at no thing
then_found : {X : Type 0} → (k : Option ℕ) (o : Option X) (i : ℕ) → option_and_then (λ x. k) o ≡ Some i → k ≡ Some i
then_found k None i h = absurd (cc h)
then_found k (Some x) i h = h

-- a peer, at one of the broker's own sockets
pub peer_known : (own : List Endpoint) (nth : ℕ) (config : ConfigView) (a : Arrival) (i : ℕ)
    → option_map (λ n. side.Peer n) (asker_at own config.peers nth a.from.ip) ≡ Some (side.Peer i)
    → i < length config.peers
peer_known own nth config a i from =
    let found = peer_found (asker_at own config.peers nth a.from.ip) i from in
    let asked = then_found (peer_with_ip config.peers a.from.ip) (slice_get own nth) i found in
    peer_within config.peers a.from.ip i asked

-- a link, and the realm of its place
pub link_known : (nth : ℕ) (config : ConfigView) (a : Arrival) (realm : ℕ) (l : Link)
    → sender config a (place.Out realm nth) ≡ Some (side.Link l)
    → (realm < length config.realms) × IsConfigured config realm (side.Link l)
link_known nth config a realm l from =
    let found = link_found (link_in config realm nth a.from) l from in
    let links : RealmView → Option Link = λ r. link_at config.peers r nth a.from in
    let in_realm = there links (slice_get config.realms realm) l found in
    let within = slice_get_within config.realms realm in_realm.0 in_realm.1 in
    (within, link_in_bound config realm nth a.from l found)

-- a home server, and the realm of its place
pub home_known : (nth : ℕ) (config : ConfigView) (a : Arrival) (realm i : ℕ)
    → sender config a (place.Reverse realm nth) ≡ Some (side.Home i)
    → (realm < length config.realms) × IsConfigured config realm (side.Home i)
home_known nth config a realm i from =
    let found = home_found (home_in config realm nth a.from.ip) i from in
    let homes : RealmView → Option ℕ = λ r. reverse_home r nth a.from.ip in
    let in_realm = there homes (slice_get config.realms realm) i found in
    let within = slice_get_within config.realms realm in_realm.0 in_realm.1 in
    (within, home_in_bound config realm nth a.from.ip i found)

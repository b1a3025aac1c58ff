-- The peer that a reverse request is for is a configured one; and what names a realm, and whether a peer's
-- Access-Requests need a Message-Authenticator, aren't looked at for it, nor for the cause of a NAK.
use Rattle.std.proofs.Common.{◌≡◌, ℕ, zero, suc, ◌+◌, ◌<◌, Bool, true, List, [], ◌∷◌, length, map, Option, Some, None, if◌then◌else◌, refl, ap, ◌∙◌, inl, inr, arith}
use Rattle.std.specs.Prelude.{◌||◌, IfSome, is_some}
use Rattle.std.specs.List.{position_from}
use Rattle.std.specs.Option.{option_or}
use Rattle.std.proofs.lemmas.Bool.{cases_Bool, false≢true}
use Rattle.roam_wire.specs.Packet.{Attribute}
use Rattle.roam_wire.specs.Attributes.{first_value}
use Rattle.roam_wire.specs.declared.attribute_type.TheConstants.{OPERATOR_NAME}
use Rattle.roam_conf.specs.Config.{PeerView, RealmView}
use Rattle.roam_conf.specs.Lookup.{first_answer}
use Rattle.roam_conf.specs.Targets.{NasPattern, begins, exactly, fronts, peer_meant, peer_with_nas, peer_with_nas_ip, peer_with_nas_ipv6, peer_with_operator, some_nas_ipv6, some_operator}
use Rattle.roam_admission.specs.UserName.{nas_of}
use Rattle.roam_reload.specs.Reload.{peer_part, realm_part}
use Rattle.roam_sessions.specs.Causes.{cause, cause_at_target}
use Rattle.roam_sessions.specs.Sessions.{Session}
use Rattle.roam_sessions.specs.Target as reverse
use Rattle.roam_sessions.specs.declared.nas_target.TheConstants.{NAS_IPV6_ADDRESS}

-- ---- a configured one

has_coa-within : (peers : List PeerView) (i : ℕ) → reverse.has_coa peers i ≡ true → i < length peers
has_coa-within [] i has = absurd (false≢true has)
has_coa-within (p ∷ ps) zero has = omega arith
has_coa-within (p ∷ ps) (suc i) has = let within = has_coa-within ps i has in omega (arith, within)

coa-within : (peers : List PeerView) (o : Option ℕ)
    → IfSome (reverse.with_coa peers o) (λ peer. peer < length peers)
coa-within peers None = tt
coa-within peers (Some i) =
    elim (cases_Bool (reverse.has_coa peers i)) [
      | inl y ↦ rw y (has_coa-within peers i y)
      | inr n ↦ rw n tt
    ]

pub target-within : (peers : List PeerView) (attributes : List Attribute)
    → IfSome (reverse.target peers attributes) (λ peer. peer < length peers)
unfolding reverse.target
target-within peers attributes = coa-within peers _

-- ---- what isn't looked at

-- the first peer that passes a test which doesn't look at it either
place_same : (test : PeerView → Bool) (n : ℕ) (peers : List PeerView) →
    ((x : PeerView) → test (peer_part x) ≡ test x) →
    position_from test n (map peer_part peers) ≡ position_from test n peers
place_same test n [] same = refl
place_same test n (x ∷ xs) same = λ i. if same x i then Some n else place_same test (n + 1) xs same i

nas_ip_same : (peers : List PeerView) (ip : List ℕ) →
    peer_with_nas_ip (map peer_part peers) ip ≡ peer_with_nas_ip peers ip
unfolding peer_with_nas_ip
nas_ip_same peers ip = place_same _ 0 peers (λ x. refl)

nas_ipv6_same : (peers : List PeerView) (ip : List ℕ) →
    peer_with_nas_ipv6 (map peer_part peers) ip ≡ peer_with_nas_ipv6 peers ip
unfolding peer_with_nas_ipv6
nas_ipv6_same peers ip = place_same _ 0 peers (λ x. refl)

nas_same : (peers : List PeerView) (pattern : NasPattern) →
    peer_with_nas (map peer_part peers) pattern ≡ peer_with_nas peers pattern
unfolding peer_with_nas
nas_same peers pattern = place_same _ 0 peers (λ x. refl)

answers_same : (peers : List PeerView) (patterns : List NasPattern) →
    first_answer (peer_with_nas (map peer_part peers)) patterns ≡ first_answer (peer_with_nas peers) patterns
answers_same peers [] = refl
answers_same peers (p ∷ ps) = λ i. option_or (nas_same peers p i) (answers_same peers ps i)

meant_same : (peers : List PeerView) (name : List ℕ) → peer_meant (map peer_part peers) name ≡ peer_meant peers name
unfolding peer_meant
meant_same peers name = answers_same peers (exactly name ∷ map begins (fronts name))

operator_same : (peers : List PeerView) (name : List ℕ) →
    peer_with_operator (map peer_part peers) name ≡ peer_with_operator peers name
unfolding peer_with_operator
operator_same peers name = place_same _ 0 peers (λ x. refl)

some_same : (peers : List PeerView) → some_operator (map peer_part peers) ≡ some_operator peers
some_same [] = refl
some_same (x ∷ xs) = ap (λ (b : Bool). is_some x.operator_name || b) (some_same xs)

some_ipv6_same : (peers : List PeerView) → some_nas_ipv6 (map peer_part peers) ≡ some_nas_ipv6 peers
some_ipv6_same [] = refl
some_ipv6_same (x ∷ xs) = ap (λ (b : Bool). is_some x.nas_ipv6 || b) (some_ipv6_same xs)

of_nas_same : (peers : List PeerView) (names : Option (List ℕ) × Option (List ℕ)) →
    reverse.peer_of_nas (map peer_part peers) names ≡ reverse.peer_of_nas peers names
of_nas_same peers (None, None) = refl
of_nas_same peers (Some ip, None) = nas_ip_same peers ip
of_nas_same peers (None, Some name) = meant_same peers name
of_nas_same peers (Some ip, Some name) = λ i. reverse.same_peer (nas_ip_same peers ip i) (meant_same peers name i)

of_names_same : (peers : List PeerView) (names : Option (List ℕ) × Option (List ℕ)) (ipv6 : Option (List ℕ)) →
    reverse.peer_of_names (map peer_part peers) names ipv6 ≡ reverse.peer_of_names peers names ipv6
of_names_same peers names None = of_nas_same peers names
of_names_same peers (None, None) (Some ip) = nas_ipv6_same peers ip
of_names_same peers (Some a, None) (Some ip) = λ i.
    reverse.same_peer (of_nas_same peers (Some a, None) i) (nas_ipv6_same peers ip i)
of_names_same peers (None, Some n) (Some ip) = λ i.
    reverse.same_peer (of_nas_same peers (None, Some n) i) (nas_ipv6_same peers ip i)
of_names_same peers (Some a, Some n) (Some ip) = λ i.
    reverse.same_peer (of_nas_same peers (Some a, Some n) i) (nas_ipv6_same peers ip i)

ipv6_of_same : (peers : List PeerView) (attributes : List Attribute) →
    reverse.ipv6_of (map peer_part peers) attributes ≡ reverse.ipv6_of peers attributes
ipv6_of_same peers attributes = λ i. if some_ipv6_same peers i then first_value NAS_IPV6_ADDRESS attributes else None

named_same : (peers : List PeerView) (operator : Option (List ℕ)) (names : Option (List ℕ) × Option (List ℕ))
    (ipv6 : Option (List ℕ)) →
    reverse.peer_named (map peer_part peers) operator names ipv6 ≡ reverse.peer_named peers operator names ipv6
named_same peers None names ipv6 = of_names_same peers names ipv6
named_same peers (Some operator) names ipv6 = λ i.
    if some_same peers i then operator_same peers operator i else of_names_same peers names ipv6 i

has_coa_same : (peers : List PeerView) (p : ℕ) → reverse.has_coa (map peer_part peers) p ≡ reverse.has_coa peers p
has_coa_same [] p = refl
has_coa_same (x ∷ xs) zero = refl
has_coa_same (x ∷ xs) (suc p) = has_coa_same xs p

with_coa_same : (peers : List PeerView) (o : Option ℕ) →
    reverse.with_coa (map peer_part peers) o ≡ reverse.with_coa peers o
with_coa_same peers None = refl
with_coa_same peers (Some p) = λ i. if has_coa_same peers p i then Some p else None

pub target_same : (peers : List PeerView) (attributes : List Attribute) →
    reverse.target (map peer_part peers) attributes ≡ reverse.target peers attributes
unfolding reverse.target
target_same peers attributes =
    let operator = first_value OPERATOR_NAME attributes in
    let names = nas_of attributes in
    let ipv6 = reverse.ipv6_of peers attributes in
    ap (λ v. reverse.with_coa (map peer_part peers) (reverse.peer_named (map peer_part peers) operator names v))
    (ipv6_of_same peers attributes)
    ∙ ap (reverse.with_coa (map peer_part peers)) (named_same peers operator names ipv6)
    ∙ with_coa_same peers (reverse.peer_named peers operator names ipv6)

-- whether a peer is among the realm's
is_among_same : (realm : RealmView) (peers : List PeerView) (p : ℕ) →
    reverse.is_among (Some (realm_part realm)) (map peer_part peers) p ≡ reverse.is_among (Some realm) peers p
is_among_same realm [] p = refl
is_among_same realm (x ∷ xs) zero = refl
is_among_same realm (x ∷ xs) (suc p) = is_among_same realm xs p

among_same : (realm : RealmView) (peers : List PeerView) (o : Option ℕ) →
    reverse.among (Some (realm_part realm)) (map peer_part peers) o ≡ reverse.among (Some realm) peers o
among_same realm peers None = refl
among_same realm peers (Some p) = λ i. if is_among_same realm peers p i then Some p else None

pub cause_same : (realm : RealmView) (peers : List PeerView) (r : ℕ) (named : Option ℕ) (attributes : List Attribute)
    (sessions : List Session) → cause (Some (realm_part realm)) (map peer_part peers) r named attributes sessions
    ≡ cause (Some realm) peers r named attributes sessions
unfolding cause
cause_same realm peers r named attributes sessions =
    let own = realm.own_sessions in
    ap (λ (o : Option ℕ). cause_at_target own r named attributes sessions
    (reverse.among (Some (realm_part realm)) (map peer_part peers) o)) (target_same peers attributes)
    ∙ ap (cause_at_target own r named attributes sessions) (among_same realm peers (reverse.target peers attributes))

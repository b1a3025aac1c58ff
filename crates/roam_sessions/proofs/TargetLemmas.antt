-- Who is named, and takes reverse requests.
use Rattle.std.proofs.Common.{◌≡◌, ℕ, ◌==◌, Bool, true, false, List, Option, Some, None, refl, sym, ap, ◌∙◌, subst, eqb-true}
use Rattle.std.specs.Prelude.{is_some, slice_get, if◌then◌else◌}
use Rattle.std.specs.Option.{option_map_or}
use Rattle.roam_conf.specs.Config.{PeerView}
use Rattle.roam_conf.specs.Targets.{peer_meant, peer_with_nas_ip, peer_with_nas_ipv6}
use Rattle.roam_sessions.specs.Target.{has_coa, peer_of_names, peer_of_nas, same_peer, with_coa}

-- what is kept where a test passes
pub kept : (b : Bool) (found index : ℕ) → (if b then Some found else None) ≡ Some index → (found ≡ index) × (b ≡ true)
kept true found index h = (cc h, refl)
kept false found index h = absurd (cc h)

coa-of : (o : Option PeerView) → option_map_or (λ peer. is_some peer.coa) o false ≡ true
    → (peer : PeerView) × (o ≡ Some peer) × (is_some peer.coa ≡ true)
coa-of None h = absurd (cc h)
coa-of (Some peer) h = (peer, refl, h)

pub with-coa-is : (peers : List PeerView) (at : Option ℕ) (index : ℕ) → with_coa peers at ≡ Some index
    → (at ≡ Some index) × (has_coa peers index ≡ true)
with-coa-is peers None index h = absurd (cc h)
with-coa-is peers (Some found) index h =
    let both = kept (has_coa peers found) found index h in
    (ap (λ (n : ℕ). Some n) both.0, subst (λ (n : ℕ). has_coa peers n ≡ true) both.0 both.1)

pub takes-requests : (peers : List PeerView) (at : Option ℕ) (index : ℕ) → with_coa peers at ≡ Some index
    → (peer : PeerView) × (slice_get peers index ≡ Some peer) × (is_some peer.coa ≡ true)
takes-requests peers at index h = coa-of (slice_get peers index) (with-coa-is peers at index h).1

-- both name the same one
same-peer-is : (a b : Option ℕ) (index : ℕ) → same_peer a b ≡ Some index → (a ≡ Some index) × (b ≡ Some index)
same-peer-is None b index h = absurd (cc h)
same-peer-is (Some a) None index h = absurd (cc h)
same-peer-is (Some a) (Some b) index h =
    let both = kept (a == b) a index h in
    let same : a ≡ b = eqb-true a b both.1 in
    (ap (λ (n : ℕ). Some n) both.0, ap (λ (n : ℕ). Some n) (sym same ∙ both.0))

some-is : (x y : List ℕ) → Some x ≡ Some y → x ≡ y
some-is x y e = cc e

-- each name of an access server that is there names the peer
pub nas-names : (peers : List PeerView) (ip name : Option (List ℕ)) (index : ℕ)
    → peer_of_nas peers (ip, name) ≡ Some index
    → ((x : List ℕ) → ip ≡ Some x → peer_with_nas_ip peers x ≡ Some index)
    × ((n : List ℕ) → name ≡ Some n → peer_meant peers n ≡ Some index)
nas-names peers None None index h = absurd (cc h)
nas-names peers (Some ip) None index h = (
  λ x is. ap (peer_with_nas_ip peers) (sym (some-is ip x is)) ∙ h,
  λ n is. absurd (cc is),
)
nas-names peers None (Some name) index h = (
  λ x is. absurd (cc is),
  λ n is. ap (peer_meant peers) (sym (some-is name n is)) ∙ h,
)
nas-names peers (Some ip) (Some name) index h =
    let both = same-peer-is (peer_with_nas_ip peers ip) (peer_meant peers name) index h in (
      λ x is. ap (peer_with_nas_ip peers) (sym (some-is ip x is)) ∙ both.0,
      λ n is. ap (peer_meant peers) (sym (some-is name n is)) ∙ both.1,
    )

-- and so does a NAS-IPv6-Address that is looked at
abbrev pub NasNames : List PeerView → Option (List ℕ) → Option (List ℕ) → Option (List ℕ) → ℕ → Type 0
NasNames peers ip name ipv6 index =
    ((x : List ℕ) → ip ≡ Some x → peer_with_nas_ip peers x ≡ Some index)
    × ((n : List ℕ) → name ≡ Some n → peer_meant peers n ≡ Some index)
    × ((x : List ℕ) → ipv6 ≡ Some x → peer_with_nas_ipv6 peers x ≡ Some index)

of-ipv6 : (peers : List PeerView) (ip : List ℕ) (index : ℕ) → peer_with_nas_ipv6 peers ip ≡ Some index
    → (x : List ℕ) → Some ip ≡ Some x → peer_with_nas_ipv6 peers x ≡ Some index
of-ipv6 peers ip index h x is = ap (peer_with_nas_ipv6 peers) (sym (some-is ip x is)) ∙ h

with-ipv6 : (peers : List PeerView) (ip name : Option (List ℕ)) (v6 : List ℕ) (index : ℕ)
    → same_peer (peer_of_nas peers (ip, name)) (peer_with_nas_ipv6 peers v6) ≡ Some index
    → NasNames peers ip name (Some v6) index
with-ipv6 peers ip name v6 index h =
    let both = same-peer-is (peer_of_nas peers (ip, name)) (peer_with_nas_ipv6 peers v6) index h in
    let names = nas-names peers ip name index both.0 in
    (names.0, names.1, of-ipv6 peers v6 index both.1)

pub all-names : (peers : List PeerView) (ip name ipv6 : Option (List ℕ)) (index : ℕ)
    → peer_of_names peers (ip, name) ipv6 ≡ Some index → NasNames peers ip name ipv6 index
all-names peers ip name None index h =
    let names = nas-names peers ip name index h in
    (names.0, names.1, λ x is. absurd (cc is))
all-names peers None None (Some v6) index h =
    (λ x is. absurd (cc is), λ n is. absurd (cc is), of-ipv6 peers v6 index h)
all-names peers (Some ip) None (Some v6) index h = with-ipv6 peers (Some ip) None v6 index h
all-names peers None (Some name) (Some v6) index h = with-ipv6 peers None (Some name) v6 index h
all-names peers (Some ip) (Some name) (Some v6) index h = with-ipv6 peers (Some ip) (Some name) v6 index h

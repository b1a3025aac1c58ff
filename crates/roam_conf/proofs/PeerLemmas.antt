-- What the index of peers finds is what the look-up of a peer says.
use Rattle.std.proofs.Common.{◌≡◌, ℕ, ◌+◌, ◌<◌, ◌≤◌, ◌&&◌, Bool, true, false, not, inl, inr, cond, List, [], ◌∷◌, length, map, get_or, drop, drop-cons, suc, Option, Some, None, option_map, refl, sym, ap, ◌∙◌, arith}
use Rattle.std.proofs.Math.ListN.{drop_of_length-le}
use Rattle.std.proofs.lemmas.Bool.{cases_Bool}
use Rattle.std.proofs.lemmas.Option.{slice_get-map, slice_get_read, slice_get_past}
use Rattle.std.specs.List.{list_any, position_from, slice_get}
use Rattle.std.specs.Option.{option_or, option_map_or}
use Rattle.std.specs.Prelude.{is_none}
use Rattle.std.specs.Str.{bytes_eq}
use Rattle.roam_conf.specs.declared.peer.Peer.{Peer}
use Rattle.roam_conf.specs.Asking.{is_no_peer, has_unknown_peer}
use Rattle.roam_conf.specs.Config.{PeerView, RealmView}
use Rattle.roam_conf.specs.Index.{owner_of, is_unowned}
use Rattle.roam_conf.specs.Lookup.{first_place}
use Rattle.roam_conf.specs.Parts.{shown_peer}
use Rattle.roam_conf.proofs.IndexLemmas.{or_none, same_both_ways}

-- the first place from a peer on
pub position_at : (test : PeerView → Bool) (peers : List Peer) (i : ℕ) (peer : Peer) → i < length peers →
    peer ≡ get_or peers i peer → cond (test (shown_peer peer)) (Some i)
    (position_from test (i + 1) (map shown_peer (drop (i + 1) peers)))
    ≡ position_from test i (map shown_peer (drop i peers))
position_at test peers i peer within is =
    let next : suc i ≡ i + 1 = omega arith in
    let here : drop i peers ≡ peer ∷ drop (i + 1) peers = drop-cons peers i peer within
    ∙ ap (λ n. get_or peers i peer ∷ drop n peers) next ∙ ap (λ p. p ∷ drop (i + 1) peers) (sym is) in
    sym (ap (λ ps. position_from test i (map shown_peer ps)) here)

-- one that isn't meant is passed over
pub position_over : (test : PeerView → Bool) (peers : List Peer) (i : ℕ) (peer : Peer) → i < length peers →
    peer ≡ get_or peers i peer → test (shown_peer peer) ≡ false →
    position_from test (i + 1) (map shown_peer (drop (i + 1) peers))
    ≡ position_from test i (map shown_peer (drop i peers))
position_over test peers i peer within is other =
    ap (λ b. cond b (Some i) (position_from test (i + 1) (map shown_peer (drop (i + 1) peers)))) (sym other)
    ∙ position_at test peers i peer within is

pub here_alone : (gone test : Bool) → gone ≡ false → test ≡ (not gone && test)
here_alone gone test here = rw here refl

pub gone_never : (gone test : Bool) → gone ≡ true → (not gone && test) ≡ false
gone_never gone test gone_is = rw gone_is refl

-- behind the last peer is none
pub position_past : (test : PeerView → Bool) (peers : List Peer) (i : ℕ) (found : Option ℕ) → length peers ≤ i →
    found ≡ option_or found (position_from test i (map shown_peer (drop i peers)))
position_past test peers i found past =
    let none : drop i peers ≡ [] = drop_of_length-le peers past in
    sym (or_none found) ∙ ap (λ ps. option_or found (position_from test i (map shown_peer ps))) (sym none)

-- A name that isn't in the index is no peer's.

none_found : (test : PeerView → Bool) (n : ℕ) (peers : List PeerView) →
    is_none (position_from test n peers) ≡ not (list_any test peers)
none_found test n [] = refl
none_found test n (p ∷ ps) =
    elim (cases_Bool (test p)) [
      | inl yes' ↦ rw yes' refl
      | inr no' ↦ rw no' (none_found test (n + 1) ps)
    ]

other_way : (name : List ℕ) (peers : List PeerView) →
    list_any (λ peer. not peer.gone && bytes_eq peer.name name) peers
    ≡ list_any (λ peer. not peer.gone && bytes_eq name peer.name) peers
other_way name [] = refl
other_way name (p ∷ ps) = rw (same_both_ways p.name name, other_way name ps) refl

module _ (peers : List PeerView) (entries : List (List ℕ × ℕ)) (found : (name : List ℕ) →
    owner_of entries name ≡ first_place (λ peer. not peer.gone && bytes_eq peer.name name) peers) where
  unowned : (name : List ℕ) → is_unowned entries name ≡ is_no_peer peers name
  unowned name = ap is_none (found name)
      ∙ none_found (λ peer. not peer.gone && bytes_eq peer.name name) 0 peers
      ∙ ap not (other_way name peers)

  some_unowned : (names : List (List ℕ)) → list_any (is_unowned entries) names ≡ list_any (is_no_peer peers) names
  some_unowned [] = refl
  some_unowned (n ∷ ns) = rw (unowned n, some_unowned ns) refl

  of_names : (names : Option (List (List ℕ))) →
      option_map_or (list_any (is_unowned entries)) names false
      ≡ option_map_or (list_any (is_no_peer peers)) names false
  of_names None = refl
  of_names (Some names) = some_unowned names

  pub unknown_by_index : (realms : List RealmView) →
      list_any (λ realm. option_map_or (list_any (is_unowned entries)) realm.peers false) realms
      ≡ has_unknown_peer peers realms
  unfolding has_unknown_peer
  unknown_by_index [] = refl
  unknown_by_index (r ∷ rs) = rw (of_names r.peers, unknown_by_index rs) refl

-- a peer by its index, as it is shown
pub peer_shown : (peers : List Peer) (i : ℕ) (peer : Peer) → i < length peers → peer ≡ get_or peers i peer →
    slice_get (map shown_peer peers) i ≡ Some (shown_peer peer)
peer_shown peers i peer within is =
    slice_get-map shown_peer peers i
    ∙ ap (option_map shown_peer) (slice_get_read peers (length peers) i peer refl within is)

pub peer_absent : (peers : List Peer) (i : ℕ) → length peers ≤ i → slice_get (map shown_peer peers) i ≡ None
peer_absent peers i past = slice_get-map shown_peer peers i ∙ ap (option_map shown_peer) (slice_get_past peers i past)

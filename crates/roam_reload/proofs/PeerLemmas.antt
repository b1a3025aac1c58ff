-- Which of the old peers the new ones keep.
use Rattle.std.proofs.Common.{◌≡◌, ◌⊎◌, ℕ, zero, suc, ◌+◌, ◌<◌, ◌≤◌, true, false, List, [], ◌∷◌, ◌++◌, Option, Some, None, option_map, map, drop, length, slice_get, get_or, unwrap_or, is_some, IfNone, IfSome, refl, ap, sym, inl, inr, ◌∙◌, subst, arith}
use Rattle.std.proofs.lemmas.Bool.{true≢false, false≢true}
use Rattle.std.proofs.lemmas.List.{length-map}
use Rattle.std.proofs.lemmas.Option.{none-some, same_Some, slice_get-get_or, slice_get-map, slice_get_cases, slice_get_past, slice_get_within}
use Rattle.roam_conf.specs.Config.{PeerView}
use Rattle.roam_conf.specs.Parts.{shown_peer}
use Rattle.roam_conf.specs.declared.peer.Peer.{Peer}
use Rattle.roam_reload.specs.Differences.{IsOtherPeer, PeersDiffer}
use Rattle.roam_reload.specs.Kept.{same_prefixes}
use Rattle.roam_reload.specs.Reload.{IsKeptAt, IsSamePeer, KeepsPeers, peer_part}
use Rattle.roam_reload.specs.declared.keys.PeerKey.{PeerKey}
use Rattle.roam_reload.specs.declared.keys.PeerKey.TheVariants.{Gone, Name, Ip, Secret, Coa, NasIp, NasIpv6, NasId, NasIds, OperatorName, AskCui, RequestWithout, ReplyWithout}

-- peers that differ in a key aren't the same
other_peer : (a b : PeerView) (key : PeerKey) → PeersDiffer a b key → ¬ (IsSamePeer a b)
other_peer a b Gone d = λ s. d (ap (λ (x : PeerView). x.gone) s.part)
other_peer a b Name d = λ s. d (ap (λ (x : PeerView). x.name) s.part)
other_peer a b Ip d = λ s. false≢true (sym d ∙ s.ips)
other_peer a b Secret d = λ s. d (ap (λ (x : PeerView). x.secret) s.part)
other_peer a b Coa d = λ s. d (ap (λ (x : PeerView). x.coa) s.part)
other_peer a b NasIp d = λ s. d (ap (λ (x : PeerView). x.nas_ip) s.part)
other_peer a b NasIpv6 d = λ s. d (ap (λ (x : PeerView). x.nas_ipv6) s.part)
other_peer a b NasId d = λ s. d (ap (λ (x : PeerView). x.nas_id) s.part)
other_peer a b NasIds d = λ s. d (ap (λ (x : PeerView). x.nas_ids) s.part)
other_peer a b OperatorName d = λ s. d (ap (λ (x : PeerView). x.operator_name) s.part)
other_peer a b AskCui d = λ s. d (ap (λ (x : PeerView). x.ask_cui) s.part)
other_peer a b RequestWithout d = λ s. d (ap (λ (x : PeerView). x.request_without) s.part)
other_peer a b ReplyWithout d = λ s. d (ap (λ (x : PeerView). x.reply_without) s.part)

-- what a difference says that is there, or isn't
pub differs : (a b : PeerView) (key : Option PeerKey) → IfSome key (PeersDiffer a b) → is_some key ≡ true →
    ¬ (IsSamePeer a b)
differs a b None said there = absurd (false≢true there)
differs a b (Some key) said there = other_peer a b key said

pub agrees : (a b : PeerView) (key : Option PeerKey) → IfNone key (IsSamePeer a b) → is_some key ≡ false →
    IsSamePeer a b
agrees a b None said away = said
agrees a b (Some key) said away = absurd (true≢false away)

-- ---- at an index

-- a peer as it is shown, by its index
shown_at : (peers : List Peer) (i : ℕ) (peer : Peer) → i < length peers → peer ≡ get_or peers i peer →
    slice_get (map shown_peer peers) i ≡ Some (shown_peer peer)
shown_at peers i peer within is =
    slice_get-map shown_peer peers i
    ∙ ap (option_map shown_peer) (slice_get-get_or peers i peer within ∙ ap (λ (p : Peer). Some p) (sym is))

-- a peer that is the same is kept
pub kept_at : (old new : List Peer) (i : ℕ) (o n : Peer) → i < length old → i < length new → o ≡ get_or old i o →
    n ≡ get_or new i n → IsSamePeer (shown_peer o) (shown_peer n) →
    IsKeptAt (map shown_peer old) (map shown_peer new) i
kept_at old new i o n in_old in_new is_old is_new same = record {
  before = shown_peer o;
  after = shown_peer n;
  was = shown_at old i o in_old is_old;
  is = shown_at new i n in_new is_new;
  same = same;
}

-- the parts of one that is kept are equal
pub kept_part : (old new : List PeerView) (peer : ℕ) → IsKeptAt old new peer →
    slice_get (map peer_part new) peer ≡ slice_get (map peer_part old) peer
kept_part old new peer k =
    slice_get-map peer_part new peer ∙ ap (option_map peer_part) k.is ∙ ap (λ (p : PeerView). Some p) k.same.part
    ∙ sym (ap (option_map peer_part) k.was) ∙ sym (slice_get-map peer_part old peer)

-- ---- all of them

-- a list begins as another, where all of that stands in it
begins : (xs ys : List PeerView) → ((i : ℕ) → i < length xs → slice_get ys i ≡ slice_get xs i) →
    ys ≡ xs ++ drop (length xs) ys
begins [] ys each = refl
begins (x ∷ xs) [] each = absurd (let k : None ≡ Some x = each 0 (omega arith) in cc)
begins (x ∷ xs) (y ∷ ys) each =
    let first : y ≡ x = ap (λ (o : Option PeerView). unwrap_or o y) (each 0 (omega arith)) in
    let rest = begins xs ys (λ i less. each (suc i) (omega (arith, less))) in
    ap (λ (p : PeerView). p ∷ ys) first ∙ ap (λ (l : List PeerView). x ∷ l) rest

pub all_kept : (old new : List PeerView) → ((peer : ℕ) → peer < length old → IsKeptAt old new peer) →
    KeepsPeers old new
all_kept old new each = record {
  more = drop (length (map peer_part old)) (map peer_part new);
  same = begins (map peer_part old) (map peer_part new)
      (λ i less. kept_part old new i (each i (omega (arith, less, length-map old peer_part))));
  ips = λ peer before after was is.
      let k = each peer (slice_get_within old peer before was) in
      let one : k.before ≡ before = same_Some k.before before (sym k.was ∙ was) in
      let other : k.after ≡ after = same_Some k.after after (sym k.is ∙ is) in
      ap (λ (p : PeerView). same_prefixes p.ips after.ips) (sym one)
      ∙ ap (λ (p : PeerView). same_prefixes k.before.ips p.ips) (sym other) ∙ k.same.ips;
}

front_kept : (xs ys : List PeerView) (i : ℕ) → i < length xs → slice_get (xs ++ ys) i ≡ slice_get xs i
front_kept [] ys i inside = absurd (omega (arith, inside))
front_kept (x ∷ xs) ys zero inside = refl
front_kept (x ∷ xs) ys (suc i) inside = front_kept xs ys i (omega (arith, inside))

-- and each of them then
pub kept_each : (old new : List PeerView) → KeepsPeers old new → (peer : ℕ) → peer < length old →
    IsKeptAt old new peer
kept_each old new k peer less =
    elim (slice_get_cases old peer).1 as (λ _. IsKeptAt old new peer) [
      | inl there ↦ by_new there.0 there.2 (slice_get new peer) refl
          (sym (slice_get-map peer_part new peer) ∙ ap (λ (ps : List PeerView). slice_get ps peer) k.same
          ∙ front_kept (map peer_part old) k.more peer (omega (arith, less, length-map old peer_part))
          ∙ slice_get-map peer_part old peer ∙ ap (option_map peer_part) there.2)
      | inr away ↦ absurd (omega (arith, less, away.0))
    ]
  where
    by_new : (before : PeerView) → slice_get old peer ≡ Some before → (o : Option PeerView) →
        slice_get new peer ≡ o → option_map peer_part o ≡ Some (peer_part before) → IsKeptAt old new peer
    by_new before was None is part = absurd (none-some (peer_part before) part)
    by_new before was (Some after) is part = record {
      before = before;
      after = after;
      was = was;
      is = is;
      same = record {
        part = same_Some (peer_part after) (peer_part before) part;
        ips = k.ips peer before after was is;
      };
    }

-- those of the first so many, and one more
pub one_more : (old new : List PeerView) (i : ℕ) → ((peer : ℕ) → peer < i → IsKeptAt old new peer) →
    IsKeptAt old new i → (peer : ℕ) → peer < i + 1 → IsKeptAt old new peer
one_more old new i before here peer less =
    elim (last_or_less peer i less) as (λ _. IsKeptAt old new peer) [
      | inl is ↦ subst (IsKeptAt old new) (sym is) here
      | inr earlier ↦ before peer earlier
    ]
  where
    last_or_less : (peer n : ℕ) → peer < n + 1 → (peer ≡ n) ⊎ (peer < n)
    last_or_less peer n less = grind arith

-- the new peers are fewer
pub gone : (old new : List Peer) (i : ℕ) → i < length old → length new ≤ i →
    IsOtherPeer (map shown_peer old) (map shown_peer new) i
gone old new i in_old past =
    let away : slice_get (map shown_peer new) i ≡ None =
    slice_get_past (map shown_peer new) i (omega (arith, past, length-map new shown_peer)) in
    record {
      there = rw (length-map old shown_peer) in_old;
      differs = λ k. none-some k.after (sym away ∙ k.is);
    }

-- the peer there is another
pub other : (old new : List Peer) (i : ℕ) (o n : Peer) → i < length old → i < length new → o ≡ get_or old i o →
    n ≡ get_or new i n → ¬ (IsSamePeer (shown_peer o) (shown_peer n)) →
    IsOtherPeer (map shown_peer old) (map shown_peer new) i
other old new i o n in_old in_new is_old is_new differ = record {
  there = rw (length-map old shown_peer) in_old;
  differs = λ k.
      let one : k.before ≡ shown_peer o =
      same_Some k.before (shown_peer o) (sym k.was ∙ shown_at old i o in_old is_old) in
      let another : k.after ≡ shown_peer n =
      same_Some k.after (shown_peer n) (sym k.is ∙ shown_at new i n in_new is_new) in
      differ (subst (λ (p : PeerView). IsSamePeer p (shown_peer n)) one
      (subst (λ (p : PeerView). IsSamePeer k.before p) another k.same));
}

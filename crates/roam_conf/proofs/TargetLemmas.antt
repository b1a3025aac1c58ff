-- What the index of what reverse requests name finds is what the look-ups in the list of peers say.
use Rattle.std.proofs.Common.{◌≡◌, ℕ, ◌+◌, ◌<◌, ◌≤◌, suc, Bool, true, false, cond, ◌||◌, not, List, [], ◌∷◌, ◌++◌, length, map, get_or, drop, drop-cons, take, Option, Some, None, String, Global, string_bytes, refl, sym, ap, ◌∙◌, inl, inr, arith}
use Rattle.std.proofs.lemmas.Bool.{cases_Bool, false≢true}
use Rattle.std.proofs.lemmas.List.{length-map, map-append}
use Rattle.std.proofs.lemmas.Slice.Eq.{bytes_eq-Decides}
use Rattle.std.specs.List.{list_any}
use Rattle.std.specs.Option.{option_or, IfSome}
use Rattle.std.specs.Str.{bytes_eq}
use Rattle.std.specs.declared.vec.Vec.{Vec}
use Rattle.roam_conf.specs.declared.peer.Peer.{Peer}
use Rattle.roam_conf.specs.Config.{PeerView}
use Rattle.roam_conf.specs.Duplicates.{has_pair, nas_texts, nas_texts_of}
use Rattle.roam_conf.specs.Index.{all_new, is_marked, of_nobody}
use Rattle.roam_conf.specs.Lookup.{first_place, first_answer}
use Rattle.roam_conf.specs.Parts.{shown_peer}
use Rattle.roam_conf.specs.Targets.{NasPattern, begins, nas_said, has_nas, same_nas, fronts_to, peer_with_nas}
use Rattle.roam_conf.proofs.IndexLemmas.{or_more}
use Rattle.roam_conf.proofs.NameLemmas.{within, same_entry, new_or_pair, not_not}
use Rattle.roam_conf.proofs.SuffixLemmas.{is_among}

-- a peer that was noted where it passes a test, in front of what is left
pub noted_peer : (before after : Option ℕ) (b : Bool) (i : ℕ) (rest : Option ℕ) →
    after ≡ option_or before (cond b (Some i) None) → option_or after rest ≡ option_or before (cond b (Some i) rest)
noted_peer before after b i rest is = ap (λ a. option_or a rest) is ∙ or_more before b i rest

-- two notes of one peer are one, where either test passes
pub noted_both : (before after : Option ℕ) (a b : Bool) (i : ℕ) →
    after ≡ option_or before (cond a (Some i) None) →
    option_or after (cond b (Some i) None) ≡ option_or before (cond (a || b) (Some i) None)
noted_both before after a b i is = ap (λ o. option_or o (cond b (Some i) None)) is ∙ by_tests before a b
  where
    by_tests : (o : Option ℕ) (a b : Bool) →
        option_or (option_or o (cond a (Some i) None)) (cond b (Some i) None)
        ≡ option_or o (cond (a || b) (Some i) None)
    by_tests (Some x) a b = refl
    by_tests None true b = refl
    by_tests None false b = refl

-- the first peer that passes a test is one of the peers
pub first_peer_bound : (test : PeerView → Bool) (peers : List Peer) (n : ℕ) (found : Option ℕ) → length peers ≡ n →
    found ≡ first_place test (map shown_peer peers) → IfSome found (λ i. i < n)
first_peer_bound test peers n None size is = tt
first_peer_bound test peers n (Some i) size is =
    omega (arith, size, length-map peers shown_peer, within test 0 (map shown_peer peers) i (sym is))

-- The texts of `nas_ids`.

pub text_at : (p : NasPattern) (texts : List (String Global)) (i : ℕ) (text : String Global) → i < length texts →
    text ≡ get_or texts i text → list_any (same_nas p) (map nas_said (map string_bytes (drop i texts)))
    ≡ same_nas p (nas_said (string_bytes text))
    || list_any (same_nas p) (map nas_said (map string_bytes (drop (i + 1) texts)))
text_at p texts i text within is =
    let next : suc i ≡ i + 1 = omega arith in
    let here : drop i texts ≡ text ∷ drop (i + 1) texts = drop-cons texts i text within
    ∙ ap (λ n. get_or texts i text ∷ drop n texts) next ∙ ap (λ t. t ∷ drop (i + 1) texts) (sym is) in
    ap (λ ts. list_any (same_nas p) (map nas_said (map string_bytes ts))) here

-- The lengths of fronts.

-- a front whose length isn't marked isn't the key at a place
pub other_key : {Z : Type 0} (marks : List Bool) (keys : List (Vec ℕ Z)) (i : ℕ) (key : Vec ℕ Z) (front : List ℕ) →
    i < length keys → key ≡ get_or keys i key →
    (length key.items ≤ 253 → is_marked marks (length key.items) ≡ true) → length front ≤ 253 →
    is_marked marks (length front) ≡ false →
    is_among front (drop (i + 1) keys) ≡ is_among front (drop i keys)
other_key marks keys i key front within is mark small off =
    let next : suc i ≡ i + 1 = omega arith in
    let here : drop i keys ≡ key ∷ drop (i + 1) keys = drop-cons keys i key within
    ∙ ap (λ n. get_or keys i key ∷ drop n keys) next ∙ ap (λ k. k ∷ drop (i + 1) keys) (sym is) in
    let other : bytes_eq front key.items ≡ false = elim (cases_Bool (bytes_eq front key.items)) [
      | inl yes' ↦ (
          let same : length front ≡ length key.items = ap length ((bytes_eq-Decides front key.items).0 yes') in
          absurd (false≢true (sym off ∙ ap (is_marked marks) same ∙ mark (omega (arith, same, small)))))
      | inr no' ↦ no'
    ] in
    sym (ap (is_among front) here ∙ rw other refl)

-- The fronts of a name, from the longest on.

pub front_first : (f : NasPattern → Option ℕ) (n k : ℕ) (name : List ℕ) → n ≡ suc k →
    option_or (f (begins (take n name))) (first_answer f (map begins (fronts_to k name)))
    ≡ first_answer f (map begins (fronts_to n name))
front_first f n k name is =
    ap (λ m. option_or (f (begins (take m name))) (first_answer f (map begins (fronts_to k name)))) is
    ∙ ap (λ m. first_answer f (map begins (fronts_to m name))) (sym is)

-- an answer is one of the answers, so it is within the bound of all
answer_bound : {X : Type 0} (f : X → Option ℕ) (n : ℕ) → ((x : X) (i : ℕ) → f x ≡ Some i → i < n) →
    (xs : List X) (i : ℕ) → first_answer f xs ≡ Some i → i < n
answer_bound f n bound [] i is = cc
answer_bound f n bound (x ∷ xs) i is = by_answer (f x) refl is (answer_bound f n bound xs i)
  where
    by_answer : (o : Option ℕ) → f x ≡ o → option_or o (first_answer f xs) ≡ Some i →
        (first_answer f xs ≡ Some i → i < n) → i < n
    by_answer (Some j) here is rest = bound x i (here ∙ is)
    by_answer None here is rest = rest is

peer_with_nas_within : (peers : List PeerView) (p : NasPattern) (i : ℕ) → peer_with_nas peers p ≡ Some i →
    i < length peers
unfolding peer_with_nas
peer_with_nas_within peers p i is = omega (arith, within (has_nas p) 0 peers i is)

pub nearest_bound : (peers : List Peer) (patterns : List NasPattern) (n : ℕ) (found : Option ℕ) → length peers ≡ n →
    found ≡ first_answer (peer_with_nas (map shown_peer peers)) patterns → IfSome found (λ i. i < n)
nearest_bound peers patterns n None size is = tt
nearest_bound peers patterns n (Some i) size is =
    let views = map shown_peer peers in
    let here : i < length views =
    answer_bound (peer_with_nas views) (length views) (peer_with_nas_within views) patterns i (sym is) in
    omega (arith, size, length-map peers shown_peer, here)

-- Texts that stand twice.

pub texts_of_peer : (peers : List Peer) (i : ℕ) (peer : Peer) → i < length peers → peer ≡ get_or peers i peer →
    map of_nobody (nas_texts (map shown_peer (drop i peers)))
    ≡ map of_nobody (nas_texts_of (shown_peer peer)) ++ map of_nobody (nas_texts (map shown_peer (drop (i + 1) peers)))
texts_of_peer peers i peer within is =
    let next : suc i ≡ i + 1 = omega arith in
    let here : drop i peers ≡ peer ∷ drop (i + 1) peers = drop-cons peers i peer within
    ∙ ap (λ n. get_or peers i peer ∷ drop n peers) next ∙ ap (λ p. p ∷ drop (i + 1) peers) (sym is) in
    ap (λ ps. map of_nobody (nas_texts (map shown_peer ps))) here
    ∙ map-append of_nobody (nas_texts_of (shown_peer peer)) (nas_texts (map shown_peer (drop (i + 1) peers)))

pair_of_texts : (texts : List (List ℕ)) → has_pair same_entry (map of_nobody texts) ≡ has_pair bytes_eq texts
pair_of_texts [] = refl
pair_of_texts (t ∷ ts) = rw (any_of_texts t ts, pair_of_texts ts) refl
  where
    any_of_texts : (text : List ℕ) (others : List (List ℕ)) →
        list_any (same_entry (of_nobody text)) (map of_nobody others) ≡ list_any (bytes_eq text) others
    any_of_texts text [] = refl
    any_of_texts text (o ∷ os) = ap (λ b. bytes_eq text o || b) (any_of_texts text os)

-- all texts are new in an empty index just where no two are equal
pub text_twice : (texts : List (List ℕ)) (done : List (List ℕ × ℕ)) (new : Bool) → done ≡ [] →
    new ≡ all_new done (map of_nobody texts) → not new ≡ has_pair bytes_eq texts
text_twice texts done new empty is =
    not_not new (has_pair bytes_eq texts) (is ∙ ap (λ l. all_new l (map of_nobody texts)) empty
    ∙ new_or_pair [] (map of_nobody texts) refl ∙ ap not (pair_of_texts texts))

-- What was saved of a ledger is taken up as it was.
use Rattle.std.proofs.Common.{◌≡◌, ℕ, zero, suc, ◌+◌, ◌<◌, ◌≤◌, ◌==◌, ◌&&◌, ◌||◌, not, Bool, true, false, List, [], ◌∷◌, ◌++◌, length, Option, Some, None, refl, sym, ap, subst, ◌∙◌, arith, slice_get, unwrap_or, append_assoc, append-nil}
use Rattle.std.proofs.lemmas.Bool.{and_parts, le-leb, le-ltb, leb-true, ne_eqb, or_parts}
use Rattle.std.proofs.lemmas.List.{length-append}
use Rattle.std.proofs.lemmas.List.Folds.{list_any-append}
use Rattle.std.proofs.lemmas.Slice.Eq.{bytes_eq-Decides}
use Rattle.std.specs.List.{list_any, position_from}
use Rattle.std.specs.Option.{ForSome, option_map_or}
use Rattle.std.specs.Prelude.{Err, Ok, OnOk, Result, if◌then◌else◌, nat_le, option_map}
use Rattle.std.specs.Str.{bytes_eq}
use Rattle.roam_conf.specs.Config.{PeerView}
use Rattle.roam_conf.specs.Duplicates.{has_duplicate_peer, has_duplicate_prefix, has_pair, nas_texts, same_peer}
use Rattle.roam_conf.specs.Lookup.{first_place}
use Rattle.roam_sessions.specs.Ledgers.{SavedSession}
use Rattle.roam_reload.proofs.KeptLemmas.{values_itself}
use Rattle.roam_sessions.specs.Parts.{AreShort}
use Rattle.roam_sessions.specs.Sessions.{AreDistinct, Session, has_session, same_session, with_session}
use Rattle.roam_sessions.proofs.SameLemmas.{apart-differ, differ-apart}
use Rattle.roam_realm.specs.RealmConfig.{RealmConfig}
use Rattle.roam_realm.specs.Saving.{AreOfPeers, RestoredIsSaved, are_short, saved, session_named, taken_up}

-- ---- a session by the name of its peer

named_by : PeerView → Session → SavedSession
named_by p s = record {
  peer = p.name;
  address = s.nas.address;
  identifier = s.nas.identifier;
  ipv6 = s.nas.ipv6;
  id = s.id;
}

part_short : (o : Option (List ℕ)) → ForSome o (λ octets. length octets ≤ 253)
    → option_map_or (λ octets. nat_le (length octets) 253) o true ≡ true
part_short None h = refl
part_short (Some x) h = le-leb (length x) 253 (h x refl)

short_is : (p : PeerView) (s : Session) → AreShort s → are_short (named_by p s) ≡ true
unfolding named_by
short_is p s h =
    rw (
      part_short s.nas.address h.address,
      part_short s.nas.identifier h.identifier,
      part_short s.nas.ipv6 h.ipv6,
      le-leb (length s.id) 253 h.id,
    ) refl

-- ---- the peer of a name is found where it stands

abbrev is_it : List ℕ → PeerView → Bool
is_it name p = not p.gone && bytes_eq p.name name

-- of two that are both here and not the same, one hasn't the other's name
not_named : (here gone name nas ipv6 operator : Bool) → gone ≡ false
    → (here && not gone && (name || nas || ipv6 || operator)) ≡ false → (here && name) ≡ false
not_named false gone name nas ipv6 operator is apart = refl
not_named true gone false nas ipv6 operator is apart = refl
not_named true true true nas ipv6 operator is apart = absurd (cc is)
not_named true false true nas ipv6 operator is apart = absurd (cc apart)

passes_none : {X : Type 0} (test : X → Bool) (xs : List X) (i : ℕ) (x : X) → list_any test xs ≡ false
    → slice_get xs i ≡ Some x → test x ≡ false
passes_none test [] i x none there = absurd (cc there)
passes_none {X = X} test (y ∷ ys) zero x none there =
    let is : y ≡ x = ap (λ (o : Option X). unwrap_or o y) there in
    sym (ap test is) ∙ (or_parts (test y) (list_any test ys) none).0
passes_none test (y ∷ ys) (suc i) x none there =
    passes_none test ys i x (or_parts (test y) (list_any test ys) none).1 there

found_there : (ps : List PeerView) (n i : ℕ) (p : PeerView) → has_pair same_peer ps ≡ false
    → slice_get ps i ≡ Some p → p.gone ≡ false → position_from (is_it p.name) n ps ≡ Some (n + i)
found_there [] n i p apart there here = absurd (cc there)
found_there (q ∷ ps) n zero p apart there here =
    let is : q ≡ p = ap (λ (o : Option PeerView). unwrap_or o q) there in
    let itself : bytes_eq p.name p.name ≡ true = (bytes_eq-Decides p.name p.name).1 refl in
    let found : is_it p.name q ≡ true = ap (is_it p.name) is ∙ rw (here, itself) refl in
    let place : n ≡ n + 0 = omega arith in
    rw found (ap (λ (k : ℕ). Some k) place)
found_there (q ∷ ps) n (suc i) p apart there here =
    let parts = or_parts (list_any (same_peer q) ps) (has_pair same_peer ps) apart in
    let other : same_peer q p ≡ false = passes_none (same_peer q) ps i p parts.0 there in
    let away : is_it p.name q ≡ false = not_named (not q.gone) p.gone (bytes_eq q.name p.name) _ _ _ here other in
    let place : n + 1 + i ≡ n + suc i = omega arith in
    rw away (found_there ps (n + 1) i p parts.1 there here ∙ ap (λ (k : ℕ). Some k) place)

names_peer : (ps : List PeerView) (s : Session) (p : PeerView) → has_duplicate_peer ps ≡ false
    → slice_get ps s.peer ≡ Some p → p.gone ≡ false → AreShort s → session_named ps (named_by p s) ≡ Some s
unfolding named_by has_duplicate_peer
names_peer ps s p once there here short =
    let before = (or_parts (has_pair same_peer ps || has_duplicate_prefix ps) (has_pair bytes_eq (nas_texts ps))
    once).0 in
    let apart = (or_parts (has_pair same_peer ps) (has_duplicate_prefix ps) before).0 in
    let place : 0 + s.peer ≡ s.peer = omega arith in
    rw (
      short_is p s short,
      found_there ps 0 s.peer p apart there here ∙ ap (λ (k : ℕ). Some k) place,
    ) refl

-- ---- one after the other

other_way : (a b : Session) → same_session a b ≡ false → same_session b a ≡ false
other_way a b apart = differ-apart b a (λ e. apart-differ a b apart (sym e))

new_there : (acc : List Session) (s : Session) (rest : List Session) → AreDistinct (acc ++ s ∷ rest)
    → has_session s acc ≡ false
new_there [] s rest distinct = refl
new_there (x ∷ acc) s rest distinct =
    let behind = or_parts (list_any (same_session x) acc) (list_any (same_session x) (s ∷ rest))
    (sym (list_any-append (same_session x) acc (s ∷ rest)) ∙ distinct.0) in
    let apart = (or_parts (same_session x s) (list_any (same_session x) rest) behind.1).0 in
    rw (other_way x s apart, new_there acc s rest distinct.1) refl

not_zero : (n : ℕ) → 0 < n → (n == 0) ≡ false
not_zero n h = ne_eqb n 0 (λ e. absurd (omega (arith, h, e)))

goes_last : (limit : ℕ) (s : Session) (acc : List Session) → has_session s acc ≡ false
    → length acc + 1 ≤ limit → with_session limit s acc ≡ acc ++ s ∷ []
goes_last limit s acc new room =
    let within : length (acc ++ s ∷ []) ≤ limit = omega (arith, room, length-append acc (s ∷ [])) in
    rw (
      new,
      not_zero limit (omega (arith, room)),
      le-ltb limit (length (acc ++ s ∷ [])) within,
    ) refl

all_taken : (c : RealmConfig) → has_duplicate_peer c.peers ≡ false → (acc rest : List Session)
    → AreOfPeers c rest → AreDistinct (acc ++ rest) → length acc + length rest ≤ c.realm.max_sessions
    → taken_up c (saved c rest) acc ≡ acc ++ rest
unfolding named_by
all_taken c once acc [] of_peers distinct room = sym (append-nil acc)
all_taken c once acc (s ∷ rest) of_peers distinct room =
    let first = of_peers.0 in
    let p = first.0 in
    let there = first.1 in
    let named : session_named c.peers (named_by p s) ≡ Some s =
    names_peer c.peers s p once there first.2 first.3 in
    let put : with_session c.realm.max_sessions s acc ≡ acc ++ s ∷ [] =
    goes_last c.realm.max_sessions s acc (new_there acc s rest distinct) (omega (arith, room)) in
    let on : (acc ++ s ∷ []) ++ rest ≡ acc ++ s ∷ rest = append_assoc acc (s ∷ []) rest in
    let longer : length (acc ++ s ∷ []) + length rest ≤ c.realm.max_sessions =
    omega (arith, room, length-append acc (s ∷ [])) in
    rw (there, named, put)
    (all_taken c once (acc ++ s ∷ []) rest of_peers.1 (subst AreDistinct (sym on) distinct) longer ∙ on)

pub restored_is_saved : RestoredIsSaved
restored_is_saved c ss once ledger of_peers =
    rw (values_itself c.realm.own_sessions)
    (all_taken c once [] ss of_peers ledger.distinct (omega (arith, ledger.at_most)))

-- ---- one that is taken up

abbrev pub under : ℕ → SavedSession → Session
under peer s = record {
  peer = peer;
  nas = record { address = s.address; identifier = s.identifier; ipv6 = s.ipv6 };
  id = s.id;
}

abbrev named_if : Bool → Option ℕ → SavedSession → Option Session
named_if short place s = if short then option_map (λ peer. under peer s) place else None

abbrev with_named : ℕ → Option Session → List Session → List Session
with_named limit named ss = option_map_or (λ own. with_session limit own ss) named ss

abbrev pub place_named : RealmConfig → SavedSession → Option ℕ
place_named c s = first_place (λ p. not p.gone && bytes_eq p.name s.peer) c.peers

part_from : (o : Option (List ℕ)) → option_map_or (λ octets. nat_le (length octets) 253) o true ≡ true
    → ForSome o (λ octets. length octets ≤ 253)
part_from None is = λ x at. absurd (cc at)
part_from (Some y) is = λ x at.
    subst (λ (o : Option (List ℕ)). length (unwrap_or o y) ≤ 253) at (leb-true (length y) 253 is)

short_from : (peer : ℕ) (s : SavedSession) → are_short s ≡ true → AreShort (under peer s)
short_from peer s is =
    let fits : Option (List ℕ) → Bool = λ o. option_map_or (λ octets. nat_le (length octets) 253) o true in
    let all = and_parts (fits s.address && fits s.identifier && fits s.ipv6) (nat_le (length s.id) 253) is in
    let both = and_parts (fits s.address && fits s.identifier) (fits s.ipv6) all.0 in
    let names = and_parts (fits s.address) (fits s.identifier) both.0 in
    record {
      address = part_from s.address names.0;
      identifier = part_from s.identifier names.1;
      ipv6 = part_from s.ipv6 both.1;
      id = leb-true (length s.id) 253 all.1;
    }

short_to : (peer : ℕ) (s : SavedSession) → AreShort (under peer s) → are_short s ≡ true
short_to peer s h =
    rw (
      part_short s.address h.address,
      part_short s.identifier h.identifier,
      part_short s.ipv6 h.ipv6,
      le-leb (length s.id) 253 h.id,
    ) refl

-- else as one of the peer that has it, if its parts are short
pub taken_some : (c : RealmConfig) (s : SavedSession) (peer limit : ℕ) (ss new : List Session)
    → place_named c s ≡ Some peer → limit ≡ c.realm.max_sessions
    → (AreShort (under peer s) → new ≡ with_session limit (under peer s) ss)
    → ((AreShort (under peer s) → ⊥) → new ≡ ss) → new ≡ taken_up c (s ∷ []) ss
taken_some c s peer limit ss new found same short long = by (are_short s) refl
  where
    there : with_named c.realm.max_sessions (named_if (are_short s) (Some peer) s) ss ≡ taken_up c (s ∷ []) ss
    there = sym (ap (λ (o : Option ℕ). with_named c.realm.max_sessions (named_if (are_short s) o s) ss) found)

    by : (b : Bool) → are_short s ≡ b → new ≡ taken_up c (s ∷ []) ss
    by true is =
        short (short_from peer s is) ∙ ap (λ (n : ℕ). with_session n (under peer s) ss) same
        ∙ sym (ap (λ (b : Bool). with_named c.realm.max_sessions (named_if b (Some peer) s) ss) is) ∙ there
    by false is =
        long (λ h. absurd (let k = short_to peer s h in cc (k, is)))
        ∙ sym (ap (λ (b : Bool). with_named c.realm.max_sessions (named_if b (Some peer) s) ss) is) ∙ there

-- what holds where a call answers
pub on_both : {X E P Q R : Type 0} (r : Result X E) → OnOk r P → OnOk r Q → (P → Q → R) → OnOk r R
on_both (Ok x) p q f = f p q
on_both (Err e) p q f = tt

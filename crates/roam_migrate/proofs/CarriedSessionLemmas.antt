-- The ledger that is carried over: without the sessions of peers that went, the newest where fewer are kept.
use Rattle.std.proofs.Common.{◌≡◌, inl, inr, ◌==◌, ◌&&◌, ◌||◌, ℕ, zero, suc, ◌+◌, ◌-◌, ◌<◌, ◌≤◌, Bool, true, false, not, List, [], ◌∷◌, ◌++◌, drop, length, take, get_or, refl, sym, ap, ◌∙◌, arith, nat_lt, add-one, if◌then◌else◌}
use Rattle.std.specs.List.{filter, list_any}
use Rattle.std.proofs.lemmas.Bool.{cases_Bool, cases_eq}
use Rattle.std.proofs.lemmas.Bool.Decides.{nat_tests}
use Rattle.std.proofs.lemmas.List.Folds.{list_any-append}
use Rattle.roam_conf.specs.Config.{PeerView}
use Rattle.roam_pending.specs.ListLaws.{IsIn}
use Rattle.roam_pending.proofs.TestLemmas.{differs, same}
use Rattle.roam_reload.specs.Kept.{keeps_sessions, of_peer, same_sessions}
use Rattle.roam_sessions.specs.Sessions.{Session, without_peer}
use Rattle.roam_realm.specs.RealmConfig.{RealmConfig}
use Rattle.roam_migrate.specs.Carrying.{AreChanged}
use Rattle.roam_migrate.specs.Reload.{newest, sessions_then}
use Rattle.roam_migrate.proofs.RenewLemmas.{is_told, taken_all, taken_one}

-- ---- lists of which some go

pub filter_same : (p q : Session → Bool) (ss : List Session) → ((s : Session) → p s ≡ q s) → filter p ss ≡ filter q ss
filter_same p q [] h = refl
filter_same p q (s ∷ ss) h =
    elim (cases_Bool (q s)) as (λ _. filter p (s ∷ ss) ≡ filter q (s ∷ ss)) [
      | inl y ↦ rw (h s ∙ y, y) (ap (λ (l : List Session). s ∷ l) (filter_same p q ss h))
      | inr n ↦ rw (h s ∙ n, n) (filter_same p q ss h)
    ]

filter_twice : (p q : Session → Bool) (ss : List Session) → filter p (filter q ss) ≡ filter (λ s. q s && p s) ss
filter_twice p q [] = refl
filter_twice p q (s ∷ ss) =
    elim (cases_Bool (q s)) as (λ _. filter p (filter q (s ∷ ss)) ≡ filter (λ x. q x && p x) (s ∷ ss)) [
      | inl y ↦ elim (cases_Bool (p s)) as (λ _. filter p (filter q (s ∷ ss)) ≡ filter (λ x. q x && p x) (s ∷ ss)) [
        | inl z ↦ rw (y, z) (ap (λ (l : List Session). s ∷ l) (filter_twice p q ss))
        | inr m ↦ rw (y, m) (filter_twice p q ss)
      ]
      | inr n ↦ rw n (filter_twice p q ss)
    ]

-- ---- peer after peer

-- a session stays, as far as the peers were seen
abbrev pub stays_so_far : List PeerView → List PeerView → List ℕ → Session → Bool
stays_so_far old new seen s = of_peer keeps_sessions old new s.peer || not (list_any (λ p. s.peer == p) seen)

all_pass : (p : Session → Bool) (ss : List Session) → ((s : Session) → p s ≡ true) → filter p ss ≡ ss
all_pass p [] h = refl
all_pass p (s ∷ ss) h = rw (h s) (ap (λ (l : List Session). s ∷ l) (all_pass p ss h))

or_true : (b : Bool) → (b || true) ≡ true
or_true true = refl
or_true false = refl

pub none_closed : (old new : List PeerView) (changed : List ℕ) (ss : List Session)
    → ss ≡ filter (stays_so_far old new (take 0 changed)) ss
none_closed old new changed ss =
    sym (all_pass (stays_so_far old new []) ss (λ s. or_true (of_peer keeps_sessions old new s.peer)))

one_seen : (old new : List PeerView) (seen : List ℕ) (x : ℕ) (s : Session) → of_peer keeps_sessions old new x ≡ true
    → stays_so_far old new seen s ≡ stays_so_far old new (seen ++ x ∷ []) s
one_seen old new seen x s keeps =
    elim (cases_eq s.peer x) as (λ _. stays_so_far old new seen s ≡ stays_so_far old new (seen ++ x ∷ []) s) [
      | inl is ↦ (
          let stays : of_peer keeps_sessions old new s.peer ≡ true =
          ap (of_peer keeps_sessions old new) is ∙ keeps in
          rw stays refl)
      | inr ne ↦ (
          let away : (s.peer == x) ≡ false = differs s.peer x ne in
          ap (λ (b : Bool). of_peer keeps_sessions old new s.peer || not b)
          (sym (list_any-append (λ (p : ℕ). s.peer == p) seen (x ∷ [])
          ∙ rw away (or_false (list_any (λ (p : ℕ). s.peer == p) seen)))))
    ]
  where
    or_false : (b : Bool) → (b || false) ≡ b
    or_false true = refl
    or_false false = refl

one_gone : (old new : List PeerView) (seen : List ℕ) (x : ℕ) (s : Session) → of_peer keeps_sessions old new x ≡ false
    → (stays_so_far old new seen s && not (s.peer == x)) ≡ stays_so_far old new (seen ++ x ∷ []) s
one_gone old new seen x s keeps =
    elim (cases_eq s.peer x)
    as (λ _. (stays_so_far old new seen s && not (s.peer == x)) ≡ stays_so_far old new (seen ++ x ∷ []) s) [
      | inl is ↦ (
          let goes : of_peer keeps_sessions old new s.peer ≡ false =
          ap (of_peer keeps_sessions old new) is ∙ keeps in
          let here : (s.peer == x) ≡ true = same s.peer x is in
          let seen_now : list_any (λ (p : ℕ). s.peer == p) (seen ++ x ∷ []) ≡ true =
          list_any-append (λ (p : ℕ). s.peer == p) seen (x ∷ [])
          ∙ rw here (or_true (list_any (λ (p : ℕ). s.peer == p) seen)) in
          rw (here, goes, seen_now) (and_false (not (list_any (λ (p : ℕ). s.peer == p) seen))))
      | inr ne ↦ (
          let away : (s.peer == x) ≡ false = differs s.peer x ne in
          let before : list_any (λ (p : ℕ). s.peer == p) (seen ++ x ∷ []) ≡ list_any (λ (p : ℕ). s.peer == p) seen =
          list_any-append (λ (p : ℕ). s.peer == p) seen (x ∷ [])
          ∙ rw away (or_false (list_any (λ (p : ℕ). s.peer == p) seen)) in
          rw (away, before) (and_true (stays_so_far old new seen s)))
    ]
  where
    or_false : (b : Bool) → (b || false) ≡ b
    or_false true = refl
    or_false false = refl

    and_false : (b : Bool) → (b && false) ≡ false
    and_false true = refl
    and_false false = refl

    and_true : (b : Bool) → (b && true) ≡ b
    and_true true = refl
    and_true false = refl

module _ (old new : List PeerView) (changed : List ℕ) (i x : ℕ) (lt : i < length changed) (at : x
    ≡ get_or changed i x)
    (first cur : List Session) (inv : cur ≡ filter (stays_so_far old new (take i changed)) first) where
  pub next_stays : of_peer keeps_sessions old new x ≡ true
      → cur ≡ filter (stays_so_far old new (take (i + 1) changed)) first
  next_stays keeps =
      inv
      ∙ filter_same (stays_so_far old new (take i changed)) (stays_so_far old new (take i changed ++ x ∷ [])) first
      (λ s. one_seen old new (take i changed) x s keeps)
      ∙ ap (λ (l : List ℕ). filter (stays_so_far old new l) first) (sym (ap (λ (n : ℕ). take n changed)
      (add-one i) ∙ taken_one changed i x lt at))

  pub next_closed : of_peer keeps_sessions old new x ≡ false
      → without_peer x cur ≡ filter (stays_so_far old new (take (i + 1) changed)) first
  next_closed keeps =
      ap (without_peer x) inv
      ∙ filter_twice (λ s. not (s.peer == x)) (stays_so_far old new (take i changed)) first
      ∙ filter_same (λ s. stays_so_far old new (take i changed) s && not (s.peer == x))
      (stays_so_far old new (take i changed ++ x ∷ [])) first
      (λ s. one_gone old new (take i changed) x s keeps)
      ∙ ap (λ (l : List ℕ). filter (stays_so_far old new l) first) (sym (ap (λ (n : ℕ). take n changed)
      (add-one i) ∙ taken_one changed i x lt at))

  -- either way
  pub next_either : (b : Bool) → of_peer keeps_sessions old new x ≡ b
      → (if b then cur else without_peer x cur) ≡ filter (stays_so_far old new (take (i + 1) changed)) first
  next_either true keeps = next_stays keeps
  next_either false keeps = next_closed keeps

any_in : (n : ℕ) (xs : List ℕ) → IsIn n xs → list_any (λ p. n == p) xs ≡ true
any_in n [] held = absurd held
any_in n (x ∷ xs) held =
    elim held as (λ _. list_any (λ p. n == p) (x ∷ xs) ≡ true) [
      | inl is ↦ rw (same n x (sym is)) refl
      | inr later ↦ elim (cases_Bool (n == x)) as (λ _. list_any (λ p. n == p) (x ∷ xs) ≡ true) [
        | inl y ↦ rw y refl
        | inr no' ↦ rw no' (any_in n xs later)
      ]
    ]

stays_itself : (gone : Bool) → (gone || not gone) ≡ true
stays_itself true = refl
stays_itself false = refl

sessions_itself : (p : PeerView) → keeps_sessions p p ≡ true
sessions_itself p = stays_itself p.gone

pub all_closed : (old new : List PeerView) (changed : List ℕ) (i : ℕ) (first cur : List Session)
    → AreChanged old new changed → length changed ≤ i → cur ≡ filter (stays_so_far old new (take i changed)) first
    → cur ≡ filter (λ s. of_peer keeps_sessions old new s.peer) first
all_closed old new changed i first cur told past inv =
    inv ∙ ap (λ (l : List ℕ). filter (stays_so_far old new l) first) (taken_all changed i past)
    ∙ filter_same (stays_so_far old new changed) (λ s. of_peer keeps_sessions old new s.peer) first (λ s. of_one s)
  where
    of_one : (s : Session) → stays_so_far old new changed s ≡ of_peer keeps_sessions old new s.peer
    of_one s =
        elim (cases_Bool (of_peer keeps_sessions old new s.peer))
        as (λ _. stays_so_far old new changed s ≡ of_peer keeps_sessions old new s.peer) [
          | inl y ↦ rw y refl
          | inr n ↦ (
              let one = is_told keeps_sessions sessions_itself (λ a b. refl) old new changed told s.peer n in
              rw (n, any_in s.peer changed one.1) refl)
        ]

-- ---- the newest

drop_none : {X : Type 0} (n : ℕ) (xs : List X) → n ≡ 0 → drop n xs ≡ xs
drop_none zero xs is = refl
drop_none (suc n) xs is = absurd (omega (arith, is))

pub newest_left : (old new : RealmConfig) (ss : List Session) → length ss ≤ old.realm.max_sessions
    → drop (length ss - new.realm.max_sessions) ss ≡ newest old new ss
newest_left old new ss few =
    elim (cases_Bool (nat_lt new.realm.max_sessions old.realm.max_sessions))
    as (λ _. drop (length ss - new.realm.max_sessions) ss ≡ newest old new ss) [
      | inl y ↦ rw y refl
      | inr n ↦ (
          let more : old.realm.max_sessions ≤ new.realm.max_sessions = grind (arith, nat_tests, n) in
          rw n (drop_none (length ss - new.realm.max_sessions) ss (omega (arith, few, more))))
    ]

pub told_alike : (old new : RealmConfig) (first cur after : List Session) → same_sessions old.realm new.realm ≡ true
    → cur ≡ filter (λ s. of_peer keeps_sessions old.peers new.peers s.peer) first
    → after ≡ drop (length cur - new.realm.max_sessions) cur → length cur ≤ old.realm.max_sessions
    → after ≡ sessions_then old new first
told_alike old new first cur after alike are left few =
    rw alike (left ∙ newest_left old new cur few ∙ ap (newest old new) are)

pub told_otherwise : (old new : RealmConfig) (first after : List Session) → same_sessions old.realm new.realm ≡ false
    → after ≡ [] → after ≡ sessions_then old new first
told_otherwise old new first after other none = rw other none

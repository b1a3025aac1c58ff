-- A ledger stays one, and what is in it after a change.
use Rattle.std.proofs.Common.{◌≡◌, ◌≢◌, ◌⊎◌, ℕ, ◌+◌, ◌-◌, ◌<◌, ◌≤◌, ◌==◌, Bool, true, false, List, [], ◌∷◌, ◌++◌, length, refl, sym, ap, ◌∙◌, inl, inr, arith, length-append}
use Rattle.std.specs.Prelude.{◌||◌, not, filter, nat_lt, if◌then◌else◌}
use Rattle.std.specs.List.{list_any}
use Rattle.std.proofs.lemmas.Bool.{cases_Bool, or_from, or_left, or_parts}
use Rattle.std.proofs.lemmas.Bool.Decides.{nat_tests}
use Rattle.std.proofs.lemmas.List.Folds.{list_any-append}
use Rattle.roam_sessions.specs.Sessions.{Asked, Session, LedgerChange, opens, closes, closes_all, nothing, agrees, changed, count_of_peer, has_most, has_session, same_session, with_session, within, without_agreeing, without_first, without_session, IsLedger}
use Rattle.roam_sessions.proofs.ListLemmas.{distinct-filter, distinct-first, distinct-last, gone-passes, last-stays, length-filter-le, length-first, there-last}
use Rattle.roam_sessions.proofs.MostLemmas.{former-has-most, has-more, one-has-most}
use Rattle.roam_sessions.proofs.SameLemmas.{peers-disagree, same-is, same-itself}

-- ---- a ledger stays one

ledger-filter : (limit : ℕ) (p : Session → Bool) (xs : List Session) → IsLedger limit xs
    → IsLedger limit (filter p xs)
ledger-filter limit p xs h = record {
  distinct = distinct-filter p xs h.distinct;
  at_most = omega (arith, length-filter-le p xs, h.at_most);
}

-- one has most where a new session is last
last-has-most : (s : Session) (xs : List Session) → list_any (has_most (xs ++ s ∷ [])) (xs ++ s ∷ []) ≡ true
last-has-most s [] = one-has-most s []
last-has-most s (x ∷ xs) = one-has-most x (xs ++ s ∷ [])

ledger-within : (limit : ℕ) (s : Session) (xs : List Session) → IsLedger limit xs → has_session s xs ≡ false
    → IsLedger limit (within limit (xs ++ s ∷ []))
ledger-within limit s xs h absent =
    let distinct = distinct-last s xs h.distinct absent in
    let size : length (xs ++ s ∷ []) ≡ length xs + 1 = length-append xs (s ∷ []) in
    elim (cases_Bool (nat_lt limit (length (xs ++ s ∷ [])))) [
      | inl full ↦ rw full (record {
        distinct = distinct-first (has_most (xs ++ s ∷ [])) (xs ++ s ∷ []) distinct;
        at_most = (
            let less = length-first (has_most (xs ++ s ∷ [])) (xs ++ s ∷ []) (last-has-most s xs) in
            omega (arith, less, size, h.at_most));
      })
      | inr room ↦ rw room (record {
        distinct = distinct;
        at_most = (let few : length (xs ++ s ∷ []) ≤ limit = grind (arith, nat_tests, room) in few);
      })
    ]

pub ledger-opens : (limit : ℕ) (s : Session) (xs : List Session) → IsLedger limit xs
    → IsLedger limit (with_session limit s xs)
ledger-opens limit s xs h =
    elim (cases_Bool (has_session s xs || limit == 0)) [
      | inl kept ↦ rw kept h
      | inr new ↦
          let parts = or_parts (has_session s xs) (limit == 0) new in
          rw new (ledger-within limit s xs h parts.0)
    ]

pub ledger-changed : (limit : ℕ) (change : LedgerChange) (xs : List Session) → IsLedger limit xs
    → IsLedger limit (changed limit change xs)
ledger-changed limit (opens s) xs h = ledger-opens limit s xs h
ledger-changed limit (closes s) xs h = ledger-filter limit (λ other. not (same_session s other)) xs h
ledger-changed limit (closes_all q) xs h = ledger-filter limit (λ s. not (agrees q s)) xs h
ledger-changed limit nothing xs h = h

-- ---- what is there after a change

within-has : (limit : ℕ) (s : Session) (xs : List Session) → 0 < limit
    → has_session s (within limit (xs ++ s ∷ [])) ≡ true
within-has limit s [] some =
    let room : nat_lt limit 1 ≡ false = grind (arith, nat_tests) in
    rw room (or_left (same_session s s) false (same-itself s))
within-has limit s (x ∷ xs) some = elim (cases_Bool (nat_lt limit (length ((x ∷ xs) ++ s ∷ [])))) [
  | inl full ↦ rw full (last-stays s (has_most ((x ∷ xs) ++ s ∷ [])) (x ∷ xs) (former-has-most x xs s))
  | inr room ↦ rw room (there-last s (x ∷ xs))
]

pub opened-is-there : (limit : ℕ) (s : Session) (xs : List Session) → 0 < limit
    → has_session s (with_session limit s xs) ≡ true
opened-is-there limit s xs some =
    elim (cases_Bool (has_session s xs)) [
      | inl there ↦ rw there there
      | inr new ↦
          let limited : (limit == 0) ≡ false = grind (arith, nat_tests) in
          rw (new, limited) (within-has limit s xs some)
    ]

-- a session that is there keeps its place
there-stays : (limit : ℕ) (s : Session) (xs : List Session) → has_session s xs ≡ true
    → with_session limit s xs ≡ xs
there-stays limit s xs there = rw there refl

kept-by : (b : Bool) (limit : ℕ) → (limit == 0) ≡ true → (ys zs : List Session)
    → (if b || limit == 0 then ys else zs) ≡ ys
kept-by true limit none ys zs = refl
kept-by false limit none ys zs = rw none refl

pub not-kept : (limit : ℕ) (s : Session) (xs : List Session) → limit ≡ 0 → with_session limit s xs ≡ xs
not-kept limit s xs none =
    let limited : (limit == 0) ≡ true = grind (arith, nat_tests, none) in
    kept-by (has_session s xs) limit limited xs (within limit (xs ++ s ∷ []))

pub opened-twice : (limit : ℕ) (s : Session) (xs : List Session)
    → with_session limit s (with_session limit s xs) ≡ with_session limit s xs
opened-twice limit s xs =
    elim (cases_Bool (limit == 0)) [
      | inl none ↦ (
          let zero_limit : limit ≡ 0 = grind (arith, nat_tests, none) in
          not-kept limit s (with_session limit s xs) zero_limit)
      | inr some ↦
          let limited : 0 < limit = grind (arith, nat_tests, some) in
          there-stays limit s (with_session limit s xs) (opened-is-there limit s xs limited)
    ]

-- a session that is there, or that can't be kept, changes nothing
pub not-opened : (limit : ℕ) (s : Session) (xs : List Session) → (has_session s xs ≡ true)
    ⊎ (limit ≡ 0) → with_session limit s xs ≡ xs
not-opened limit s xs (inl there) = there-stays limit s xs there
not-opened limit s xs (inr none) = not-kept limit s xs none

-- a new session that is put last
pub opened : (limit : ℕ) (s : Session) (xs : List Session) → has_session s xs ≡ false → limit ≢ 0
    → within limit (xs ++ s ∷ []) ≡ with_session limit s xs
opened limit s xs new some =
    let limited : (limit == 0) ≡ false = grind (arith, nat_tests) in
    let is_new : (has_session s xs || limit == 0) ≡ false = or_from (has_session s xs) (limit == 0) new limited in
    rw is_new refl

-- whether one makes way or not
pub full-within : (limit : ℕ) (xs : List Session) → limit < length xs
    → without_first (has_most xs) xs ≡ within limit xs
full-within limit xs full =
    let is : nat_lt limit (length xs) ≡ true = grind (arith, nat_tests) in rw is refl

pub room-within : (limit : ℕ) (xs : List Session) → length xs ≤ limit → xs ≡ within limit xs
room-within limit xs room =
    let isnt : nat_lt limit (length xs) ≡ false = grind (arith, nat_tests) in rw isnt refl

pub closed-is-gone : (s : Session) (xs : List Session)
    → has_session s (without_session s xs) ≡ false
closed-is-gone s [] = refl
closed-is-gone s (x ∷ xs) =
    elim (cases_Bool (same_session s x)) [
      | inl same ↦ rw same (closed-is-gone s xs)
      | inr other ↦ rw other (or_from (same_session s x) (has_session s (without_session s xs)) other
          (closed-is-gone s xs))
    ]

-- a list without a session that isn't there
pub without-absent : (s : Session) (xs : List Session) → has_session s xs ≡ false
    → without_session s xs ≡ xs
without-absent s [] h = refl
without-absent s (x ∷ xs) h =
    let parts = or_parts (same_session s x) (has_session s xs) h in
    rw parts.0 (ap (λ (l : List Session). x ∷ l) (without-absent s xs parts.1))

-- a change that leaves the sessions as they are opens none that isn't there
pub opening-changes :
    (limit : ℕ) (s : Session) (xs : List Session) → false ≡ has_session s xs → limit ≢ 0
    → with_session limit s xs ≡ xs → ⊥
opening-changes limit s xs absent some same =
    let there = opened-is-there limit s xs (omega (arith, some)) in
    let bad : false ≡ true = absent ∙ ap (has_session s) (sym same) ∙ there in cc

pub others-stay : (s other : Session) (xs : List Session) → same_session other s ≡ false
    → has_session other (without_session s xs) ≡ has_session other xs
others-stay s other [] h = refl
others-stay s other (x ∷ xs) h =
    elim (cases_Bool (same_session s x)) [
      | inl same ↦
          let not_this : same_session other x ≡ false =
          ap (same_session other) (sym (same-is s x same)) ∙ h in
          rw (same, not_this) (others-stay s other xs h)
      | inr differs ↦ rw differs (ap (λ (b : Bool). same_session other x || b) (others-stay s other xs h))
    ]

pub agreeing-are-gone : (q : Asked) (s : Session) (xs : List Session) → agrees q s ≡ true
    → has_session s (without_agreeing q xs) ≡ false
agreeing-are-gone q s [] agree = refl
agreeing-are-gone q s (x ∷ xs) agree =
    elim (cases_Bool (agrees q x)) [
      | inl gone ↦ rw gone (agreeing-are-gone q s xs agree)
      | inr stays ↦ rw stays (or_from (same_session s x) (has_session s (without_agreeing q xs)) (apart stays)
          (agreeing-are-gone q s xs agree))
    ]
  where
    apart : agrees q x ≡ false → same_session s x ≡ false
    apart stays = elim (cases_Bool (same_session s x)) [
      | inl same ↦ absurd (let k : agrees q s ≡ false = ap (agrees q) (same-is s x same) ∙ stays in cc (k, agree))
      | inr other ↦ other
    ]

pub disagreeing-stay : (q : Asked) (s : Session) (xs : List Session) → agrees q s ≡ false
    → has_session s (without_agreeing q xs) ≡ has_session s xs
disagreeing-stay q s [] disagree = refl
disagreeing-stay q s (x ∷ xs) disagree =
    elim (cases_Bool (agrees q x)) [
      | inl gone ↦ rw (gone, apart gone) (disagreeing-stay q s xs disagree)
      | inr stays ↦ rw stays (ap (λ (b : Bool). same_session s x || b) (disagreeing-stay q s xs disagree))
    ]
  where
    apart : agrees q x ≡ true → same_session s x ≡ false
    apart gone = elim (cases_Bool (same_session s x)) [
      | inl same ↦ absurd (let k : agrees q s ≡ true = ap (agrees q) (same-is s x same) ∙ gone in cc (k, disagree))
      | inr other ↦ other
    ]

pub others-of-peers-stay : (q : Asked) (s : Session) (xs : List Session) → s.peer ≢ q.peer
    → has_session s (without_agreeing q xs) ≡ has_session s xs
others-of-peers-stay q s xs apart = disagreeing-stay q s xs (peers-disagree q s apart)

-- what makes way for a session of another peer is of a peer that has more
pub more-makes-way : (limit : ℕ) (s other : Session) (xs : List Session) → has_session other xs ≡ true
    → has_session other (with_session limit s xs) ≡ false → other.peer ≢ s.peer
    → count_of_peer s.peer xs < count_of_peer other.peer xs
more-makes-way limit s other xs there gone apart =
    elim (cases_Bool (has_session s xs || limit == 0)) [
      | inl kept ↦ absurd (let k : has_session other xs ≡ false = rw kept at gone in cc (k, there))
      | inr new ↦ (
          let k : has_session other (within limit (xs ++ s ∷ [])) ≡ false = rw new at gone in
          inner k)
    ]
  where
    still : has_session other (xs ++ s ∷ []) ≡ true
    still = list_any-append (same_session other) xs (s ∷ [])
        ∙ or_left (has_session other xs) (has_session other (s ∷ [])) there

    inner : has_session other (within limit (xs ++ s ∷ [])) ≡ false
        → count_of_peer s.peer xs < count_of_peer other.peer xs
    inner k = elim (cases_Bool (nat_lt limit (length (xs ++ s ∷ [])))) [
      | inl full ↦ (
          let l : has_session other (without_first (has_most (xs ++ s ∷ [])) (xs ++ s ∷ [])) ≡ false = rw full at k in
          has-more s other xs apart (gone-passes other (has_most (xs ++ s ∷ [])) (xs ++ s ∷ []) still l))
      | inr room ↦ absurd (let l : has_session other (xs ++ s ∷ []) ≡ false = rw room at k in cc (l, still))
    ]

-- a ledger with a limit of 0 has none
pub limit-of-none : (xs : List Session) → IsLedger 0 xs → xs ≡ []
limit-of-none [] h = refl
limit-of-none (x ∷ xs) h = absurd (let k = h.at_most in omega (arith, k))

-- The groups of buckets, and a session in its bucket.
use Rattle.std.proofs.Common.{◌≡◌, ◌≢◌, ℕ, ◌+◌, ◌-◌, ◌<◌, ◌≤◌, true, false, List, [], ◌∷◌, length, length-append, Option, Some, None, refl, sym, ap, ◌∙◌, subst, inl, inr, arith}
use Rattle.std.specs.Prelude.{IsSome, is_some, option_and_then}
use Rattle.std.specs.Str.{bytes_eq}
use Rattle.std.proofs.lemmas.Bool.{cases_Bool}
use Rattle.roam_wire.specs.Numbered.{PutsAt, listed, tickets_end}
use Rattle.roam_sessions.specs.Ended.{open_count, some_count, where_open}
use Rattle.roam_sessions.specs.Facets.{whole_buckets}
use Rattle.roam_sessions.specs.Private.Buckets.{bucket_text, if_same, in_bucket, same_at, whole_bucket, whole_text}
use Rattle.roam_sessions.specs.Private.Groups.{IsGrouped, PlainGroups, PutsRow, in_group}
use Rattle.roam_sessions.specs.Private.Tickets.{IsTicketOf, all_listed}
use Rattle.roam_sessions.specs.Sessions.{Session, same_session}
use Rattle.roam_sessions.specs.declared.buckets.Buckets.{Buckets}
use Rattle.roam_sessions.proofs.NewestLemmas.{listed-parts}
use Rattle.roam_sessions.proofs.SameLemmas.{octets-are, octets-same, same-is, same-itself}
use Rattle.roam_sessions.proofs.WalkLemmas.{count-step}

module _ {X : Type 0} (I J : ℕ → Option X) (b : ℕ) (w : Option X) where
  -- what is put at a number is put at its row
  pub puts-bucket : PutsAt I J b w → PutsRow (in_bucket I) (in_bucket J) (bucket_text b) w
  puts-bucket puts other = elim (cases_Bool (bytes_eq (b ∷ []) other)) [
    | inl same ↦ rw same (subst (λ (l : List ℕ). in_bucket J l ≡ w) (octets-are (b ∷ []) other same) puts.changed)
    | inr apart ↦ rw apart (kept other apart)
  ]
    where
      kept : (l : List ℕ) → bytes_eq (b ∷ []) l ≡ false → in_bucket J l ≡ in_bucket I l
      kept [] h = refl
      kept (c ∷ []) h = puts.others c (λ is. absurd (
          let same : bytes_eq (b ∷ []) (c ∷ []) ≡ true =
          octets-same (b ∷ []) (c ∷ []) (ap (λ (n : ℕ). n ∷ []) (sym is)) in
          cc (same, h)))
      kept (c ∷ d ∷ rest) h = refl

-- no row has anything where no number has
pub none-in-bucket : {X : Type 0} (I : ℕ → Option X) → ((b : ℕ) → I b ≡ None) → (row : List ℕ) → in_bucket I row ≡ None
none-in-bucket I none [] = refl
none-in-bucket I none (b ∷ []) = none b
none-in-bucket I none (b ∷ c ∷ rest) = refl

-- one that has something is counted
some-one : {X : Type 0} (o : Option X) → IsSome o → some_count o ≡ 1
some-one None some = absurd (cc some)
some-one (Some x) some = refl

held-counts : {X : Type 0} (h : ℕ → Option X) (t : ℕ) → t < tickets_end → IsSome (h t) → 1 ≤ length (all_listed h)
held-counts {X} h t lt held =
    let size : tickets_end ≡ t + (tickets_end - t) = omega (arith, lt) in
    let start : 0 + t ≡ t = omega arith in
    let sizes = ap (λ (l : List X). length l) (listed-parts h 0 t (tickets_end - t) tickets_end size) in
    let both = length-append (listed h 0 t) (listed h (0 + t) (tickets_end - t)) in
    let place = ap (λ (u : ℕ). length (listed h u (tickets_end - t))) start in
    let step = count-step h t lt in
    let one = some-one (h t) held in
    omega (arith, sizes, both, place, step, one)

-- a session that is there is the one that is sought, or isn't
if-same-is : (s x : Session) → is_some (if_same s x) ≡ same_session s x
if-same-is s x = elim (cases_Bool (same_session s x)) [
  | inl same ↦ rw same refl
  | inr apart ↦ rw apart refl
]

module _ (s : Session) (F : ℕ → Option Session) where
  pub session-there : (o : Option ℕ) (t : ℕ) (x : Session) → o ≡ Some t → F t ≡ Some x
      → same_session s x ≡ is_some (option_and_then (same_at s F) o)
  session-there o t x is at = rw (is, at) (sym (if-same-is s x))

  pub session-gone : (o : Option ℕ) (t : ℕ) → o ≡ Some t → F t ≡ None
      → false ≡ is_some (option_and_then (same_at s F) o)
  session-gone o t is at = rw (is, at) refl

  -- it was found, or isn't counted
  pub session-found : (o : Option ℕ) → true ≡ is_some (option_and_then (same_at s F) o) → IsTicketOf s F o
  session-found None is = absurd (cc is)
  session-found (Some t) is = by (F t) refl is
    where
      by : (o : Option Session) → F t ≡ o → true ≡ is_some (option_and_then (if_same s) o) → F t ≡ Some s
      by None at there = absurd (cc there)
      by (Some x) at there =
          let same : same_session s x ≡ true = sym (if-same-is s x) ∙ sym there in
          at ∙ ap (λ (z : Session). Some z) (sym (same-is s x same))

  pub session-uncounted : (o : Option ℕ) → false ≡ is_some (option_and_then (same_at s F) o)
      → 0 + open_count (same_at s F) o ≡ 0
  session-uncounted None isnt = refl
  session-uncounted (Some t) isnt = by (same_at s F t) isnt
    where
      by : (o : Option Session) → false ≡ is_some o → 0 + some_count o ≡ 0
      by None none = refl
      by (Some x) none = absurd (cc none)

  -- where none in its bucket was counted no ticket has it
  pub none-is : (b : Buckets) (p : PlainGroups) (bucket : ℕ) → IsGrouped (whole_buckets b F) p
      → bucket ≡ whole_bucket b s
      → 0 ≡ length (all_listed (in_group (where_open (same_at s F) (whole_buckets b F)) (bucket_text bucket)))
      → (t : ℕ) → F t ≢ Some s
  none-is b p bucket grouped is none t at =
      let shown : same_at s F t ≡ Some s = ap (option_and_then (if_same s)) at ∙ rw (same-itself s) refl in
      let text : whole_buckets b F t ≡ Some (bucket_text (whole_bucket b s)) = ap (option_and_then (whole_text b)) at in
      let same : bytes_eq (bucket_text bucket) (bucket_text (whole_bucket b s)) ≡ true =
      octets-same (bucket_text bucket) (bucket_text (whole_bucket b s)) (ap (λ (n : ℕ). bucket_text n) is) in
      let held : IsSome (in_group (where_open (same_at s F) (whole_buckets b F)) (bucket_text bucket) t) =
      rw (shown, text, same) refl in
      let below = grouped.within t (bucket_text (whole_bucket b s)) text in
      let one = held-counts (in_group (where_open (same_at s F) (whole_buckets b F)) (bucket_text bucket)) t below held in
      omega (arith, one, none)

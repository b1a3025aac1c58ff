-- What is counted at a place is what was counted there of its own event and subject.
use Rattle.std.proofs.Common.{◌≡◌, ◌∙◌, ℕ, ◌+◌, ◌==◌, ◌&&◌, Bool, true, false, [], ◌∷◌, Option, Some, None, ap, refl, sym, subst}
use Rattle.std.proofs.Common.{if◌then◌else◌}
use Rattle.std.proofs.lemmas.Bool.{and_from, and_parts, eq-eqb, eqb-true, false≢true}
use Rattle.std.proofs.lemmas.List.Sums.{sum_by-cons}
use Rattle.roam_counters.proofs.ApartLemmas.{events-apart, subjects-apart}
use Rattle.roam_counters.specs.Cells.{cell_of, holder_of}
use Rattle.roam_counters.specs.Events.{event_place}
use Rattle.roam_counters.specs.Sums.{SumsAreOfEvents, counted, counted_by, of_event_by, same_event, same_holder, same_subject}
use Rattle.roam_counters.specs.declared.cell.Holder.{Holder}
use Rattle.roam_counters.specs.declared.cell.Holder.TheVariants as holder
use Rattle.roam_counters.specs.declared.cell.Subject.{Subject}
use Rattle.roam_counters.specs.declared.cell.Subject.TheVariants as subject
use Rattle.roam_counters.specs.declared.event.CountedEvent.{CountedEvent}
use Rattle.roam_counters.specs.declared.increments.Increment.{Increment}

-- lists that are told to be the same are
pub holder-from_same : (h k : Holder) → same_holder h k ≡ true → h ≡ k
holder-from_same holder.Server holder.Server is = refl
holder-from_same holder.Server (holder.Realm q) is = absurd (false≢true is)
holder-from_same holder.Server (holder.Peer q) is = absurd (false≢true is)
holder-from_same (holder.Realm r) holder.Server is = absurd (false≢true is)
holder-from_same (holder.Realm r) (holder.Realm q) is = ap holder.Realm (eqb-true r q is)
holder-from_same (holder.Realm r) (holder.Peer q) is = absurd (false≢true is)
holder-from_same (holder.Peer r) holder.Server is = absurd (false≢true is)
holder-from_same (holder.Peer r) (holder.Realm q) is = absurd (false≢true is)
holder-from_same (holder.Peer r) (holder.Peer q) is = ap holder.Peer (eqb-true r q is)

pub same-holder : (h : Holder) → same_holder h h ≡ true
same-holder holder.Server = refl
same-holder (holder.Realm r) = eq-eqb r r refl
same-holder (holder.Peer p) = eq-eqb p p refl

-- and so are subjects
pub subject-from_same : (s t : Subject) → same_subject s t ≡ true → s ≡ t
subject-from_same subject.All subject.All is = refl
subject-from_same subject.All (subject.Realm q) is = absurd (false≢true is)
subject-from_same subject.All (subject.Server q n) is = absurd (false≢true is)
subject-from_same subject.All (subject.Peer q) is = absurd (false≢true is)
subject-from_same (subject.Realm r) subject.All is = absurd (false≢true is)
subject-from_same (subject.Realm r) (subject.Realm q) is = ap subject.Realm (eqb-true r q is)
subject-from_same (subject.Realm r) (subject.Server q n) is = absurd (false≢true is)
subject-from_same (subject.Realm r) (subject.Peer q) is = absurd (false≢true is)
subject-from_same (subject.Server r m) subject.All is = absurd (false≢true is)
subject-from_same (subject.Server r m) (subject.Realm q) is = absurd (false≢true is)
subject-from_same (subject.Server r m) (subject.Server q n) is =
    let both = and_parts (r == q) (m == n) is in
    ap (λ (k : ℕ). subject.Server k m) (eqb-true r q both.0)
    ∙ ap (λ (k : ℕ). subject.Server q k) (eqb-true m n both.1)
subject-from_same (subject.Server r m) (subject.Peer q) is = absurd (false≢true is)
subject-from_same (subject.Peer r) subject.All is = absurd (false≢true is)
subject-from_same (subject.Peer r) (subject.Realm q) is = absurd (false≢true is)
subject-from_same (subject.Peer r) (subject.Server q n) is = absurd (false≢true is)
subject-from_same (subject.Peer r) (subject.Peer q) is = ap subject.Peer (eqb-true r q is)

pub same-subject : (s : Subject) → same_subject s s ≡ true
same-subject subject.All = refl
same-subject (subject.Realm r) = eq-eqb r r refl
same-subject (subject.Server r n) = and_from (r == r) (n == n) (eq-eqb r r refl) (eq-eqb n n refl)
same-subject (subject.Peer p) = eq-eqb p p refl

-- tests that hold of the same are one
one-test : (a b : Bool) → (a ≡ true → b ≡ true) → (b ≡ true → a ≡ true) → a ≡ b
one-test true true there back = refl
one-test true false there back = sym (there refl)
one-test false true there back = back refl
one-test false false there back = refl

-- an event of a subject stands at a place of a list where no other one does
same-place : (s t : Subject) (a b : CountedEvent) →
    (same_holder (holder_of s) (holder_of t) && (cell_of s a == cell_of t b)) ≡ (same_subject s t && same_event a b)
same-place s t a b =
    one-test (same_holder (holder_of s) (holder_of t) && (cell_of s a == cell_of t b))
    (same_subject s t && same_event a b)
    (λ here.
    let both = and_parts (same_holder (holder_of s) (holder_of t)) (cell_of s a == cell_of t b) here in
    let apart = subjects-apart s t a b (holder-from_same (holder_of s) (holder_of t) both.0)
    (eqb-true (cell_of s a) (cell_of t b) both.1) in
    and_from (same_subject s t) (same_event a b)
    (subst (λ (u : Subject). same_subject s u ≡ true) apart.0 (same-subject s))
    (eq-eqb (event_place a) (event_place b) (ap event_place apart.1)))
    (λ same.
    let both = and_parts (same_subject s t) (same_event a b) same in
    let one : s ≡ t = subject-from_same s t both.0 in
    let event : a ≡ b = events-apart a b (eqb-true (event_place a) (event_place b) both.1) in
    and_from (same_holder (holder_of s) (holder_of t)) (cell_of s a == cell_of t b)
    (subst (λ (u : Subject). same_holder (holder_of s) (holder_of u) ≡ true) one (same-holder (holder_of s)))
    (eq-eqb (cell_of s a) (cell_of t b)
    (ap (λ (u : Subject). cell_of u a) one ∙ ap (λ (x : CountedEvent). cell_of t x) event)))

-- of one increment
counted-one : (s : Subject) (e : CountedEvent) (i : Option Increment) →
    counted_by (holder_of s) (cell_of s e) i ≡ of_event_by s e i
counted-one s e None = refl
counted-one s e (Some i) =
    ap (λ (b : Bool). if b then i.count else 0) (same-place i.subject s i.event e)

pub are-of_events : SumsAreOfEvents
are-of_events s e [] = refl
are-of_events s e (i ∷ is) =
    let one = counted-one s e i in
    let others = are-of_events s e is in
    let here = sum_by-cons (counted_by (holder_of s) (cell_of s e)) i is in
    let there = sum_by-cons (of_event_by s e) i is in
    here ∙ ap (λ (n : ℕ). n + counted (holder_of s) (cell_of s e) is) one
    ∙ ap (λ (n : ℕ). of_event_by s e i + n) others ∙ sym there

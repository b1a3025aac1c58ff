-- What entries say, one entry more.
use Rattle.std.proofs.Common.{◌≡◌, true, false, Some, None, ◌+◌, ◌≤◌, List, [], ◌∷◌, ◌++◌, length, refl, ap, sym, subst, ◌∙◌, arith, append_assoc}
use Rattle.std.proofs.lemmas.List.{append-nil, length-append}
use mathlib.Core.List.{IsPrefix}
use Rattle.roam_core.specs.Events.{PlainEvent}
use Rattle.roam_shard.specs.Steps.{PlainAnswer, PlainStep}
use Rattle.roam_history.specs.Entries.{ClosesLast, HistoryEntry, IsOpen, IsWhole, closed_entry, gone_after, gone_of, last_of, let_go_entry, step_entry, steps_in, stored_after, stored_of, times_let_go}

pub steps-append : (xs ys : List HistoryEntry) → steps_in (xs ++ ys) ≡ steps_in xs ++ steps_in ys
steps-append [] ys = refl
steps-append (Some (Some s) ∷ xs) ys = ap (λ l. s ∷ l) (steps-append xs ys)
steps-append (Some None ∷ xs) ys = steps-append xs ys
steps-append (None ∷ xs) ys = steps-append xs ys

pub steps-few : (es : List HistoryEntry) → length (steps_in es) ≤ length es
steps-few [] = omega arith
steps-few (Some (Some s) ∷ es) = (let few = steps-few es in omega (arith, few))
steps-few (Some None ∷ es) = (let few = steps-few es in omega (arith, few))
steps-few (None ∷ es) = (let few = steps-few es in omega (arith, few))

pub times-append : (xs ys : List HistoryEntry) → times_let_go (xs ++ ys) ≡ times_let_go xs + times_let_go ys
times-append [] ys = omega arith
times-append (Some (Some s) ∷ xs) ys = times-append xs ys
times-append (Some None ∷ xs) ys = (let more = times-append xs ys in omega (arith, more))
times-append (None ∷ xs) ys = times-append xs ys

pub times-few : (es : List HistoryEntry) → times_let_go es ≤ length es
times-few [] = omega arith
times-few (Some (Some s) ∷ es) = (let few = times-few es in omega (arith, few))
times-few (Some None ∷ es) = (let few = times-few es in omega (arith, few))
times-few (None ∷ es) = (let few = times-few es in omega (arith, few))

pub stored-append : (st : List PlainStep) (xs ys : List HistoryEntry) →
    stored_after st (xs ++ ys) ≡ stored_after (stored_after st xs) ys
stored-append st [] ys = refl
stored-append st (Some (Some s) ∷ xs) ys = stored-append (st ++ s ∷ []) xs ys
stored-append st (Some None ∷ xs) ys = stored-append [] xs ys
stored-append st (None ∷ xs) ys = stored-append st xs ys

pub gone-append : (g st : List PlainStep) (xs ys : List HistoryEntry) →
    gone_after g st (xs ++ ys) ≡ gone_after (gone_after g st xs) (stored_after st xs) ys
gone-append g st [] ys = refl
gone-append g st (Some (Some s) ∷ xs) ys = gone-append g (st ++ s ∷ []) xs ys
gone-append g st (Some None ∷ xs) ys = gone-append (g ++ st) [] xs ys
gone-append g st (None ∷ xs) ys = gone-append g st xs ys

-- those that were let go of, and then the stored ones, are all
all-after : (g st : List PlainStep) (es : List HistoryEntry) →
    gone_after g st es ++ stored_after st es ≡ (g ++ st) ++ steps_in es
all-after g st [] = sym (append-nil (g ++ st))
all-after g st (Some (Some s) ∷ es) =
    all-after g (st ++ s ∷ []) es
    ∙ (ap (λ l. l ++ steps_in es) (sym (append_assoc g st (s ∷ []))) ∙ append_assoc (g ++ st) (s ∷ []) (steps_in es))
all-after g st (Some None ∷ es) = all-after (g ++ st) [] es ∙ ap (λ l. l ++ steps_in es) (append-nil (g ++ st))
all-after g st (None ∷ es) = all-after g st es

pub all-steps : (es : List HistoryEntry) → gone_of es ++ stored_of es ≡ steps_in es
all-steps es = all-after [] [] es

-- one step more
pub one-step : (es : List HistoryEntry) (s : PlainStep) → steps_in (es ++ step_entry s ∷ []) ≡ steps_in es ++ s ∷ []
one-step es s = steps-append es (step_entry s ∷ [])

pub one-stored : (es : List HistoryEntry) (s : PlainStep) → stored_of (es ++ step_entry s ∷ []) ≡ stored_of es ++ s ∷ []
one-stored es s = stored-append [] es (step_entry s ∷ [])

pub same-gone : (es : List HistoryEntry) (s : PlainStep) → gone_of (es ++ step_entry s ∷ []) ≡ gone_of es
same-gone es s = gone-append [] [] es (step_entry s ∷ [])

-- the stored ones are let go of
pub same-steps : (es : List HistoryEntry) → steps_in (es ++ let_go_entry ∷ []) ≡ steps_in es
same-steps es = steps-append es (let_go_entry ∷ []) ∙ append-nil (steps_in es)

pub none-stored : (es : List HistoryEntry) → stored_of (es ++ let_go_entry ∷ []) ≡ []
none-stored es = stored-append [] es (let_go_entry ∷ [])

pub all-gone : (es : List HistoryEntry) → gone_of (es ++ let_go_entry ∷ []) ≡ gone_of es ++ stored_of es
all-gone es = gone-append [] [] es (let_go_entry ∷ [])

-- the history is closed
pub closed-steps : (es : List HistoryEntry) → steps_in (es ++ closed_entry ∷ []) ≡ steps_in es
closed-steps es = steps-append es (closed_entry ∷ []) ∙ append-nil (steps_in es)

pub closed-stored : (es : List HistoryEntry) → stored_of (es ++ closed_entry ∷ []) ≡ stored_of es
closed-stored es = stored-append [] es (closed_entry ∷ [])

-- an entry that doesn't close a history leaves it open
pub open-step : (es : List HistoryEntry) (s : PlainStep) → IsOpen es → IsOpen (es ++ step_entry s ∷ [])
open-step [] s still = tt
open-step (Some (Some t) ∷ es) s still = open-step es s still
open-step (Some None ∷ es) s still = open-step es s still
open-step (None ∷ es) s still = absurd still

pub open-gone : (es : List HistoryEntry) → IsOpen es → IsOpen (es ++ let_go_entry ∷ [])
open-gone [] still = tt
open-gone (Some (Some t) ∷ es) still = open-gone es still
open-gone (Some None ∷ es) still = open-gone es still
open-gone (None ∷ es) still = absurd still

-- behind an open history stands any one entry
pub closes_one : (es : List HistoryEntry) (e : HistoryEntry) → IsOpen es → ClosesLast (es ++ e ∷ [])
closes_one [] (Some (Some s)) still = tt
closes_one [] (Some None) still = tt
closes_one [] None still = refl
closes_one (Some (Some t) ∷ es) e still = closes_one es e still
closes_one (Some None ∷ es) e still = closes_one es e still
closes_one (None ∷ es) e still = absurd still

-- and none behind the one that closes it
none_behind : (es rest : List HistoryEntry) → ClosesLast ((es ++ closed_entry ∷ []) ++ rest) → rest ≡ []
none_behind [] rest last = last
none_behind (Some (Some t) ∷ es) rest last = none_behind es rest last
none_behind (Some None ∷ es) rest last = none_behind es rest last
none_behind (None ∷ es) rest last =
    absurd (let bad : (es ++ closed_entry ∷ []) ++ rest ≡ [] = last in not_none es rest bad)
  where
    not_none : (es rest : List HistoryEntry) → (es ++ closed_entry ∷ []) ++ rest ≡ [] → ⊥
    not_none [] rest is = cc
    not_none (e ∷ es) rest is = cc

-- where a whole history ends
pub whole_ends : (es : List HistoryEntry) → IsWhole es → (before : List HistoryEntry)
    × (es ≡ before ++ closed_entry ∷ [])
whole_ends [] whole = absurd (let bad : false ≡ true = whole in cc)
whole_ends (None ∷ []) whole = ([], refl)
whole_ends (Some e ∷ []) whole = absurd (let bad : false ≡ true = whole in cc)
whole_ends (e ∷ f ∷ es) whole =
    (let rest = whole_ends (f ∷ es) whole in (e ∷ rest.0, ap (λ (l : List HistoryEntry). e ∷ l) rest.1))

pub is_whole_closed : (es : List HistoryEntry) → IsWhole (es ++ closed_entry ∷ [])
is_whole_closed [] = refl
is_whole_closed (e ∷ []) = refl
is_whole_closed (e ∷ f ∷ es) = is_whole_closed (f ∷ es)

-- so any beginning of a history begins one that is whole
pub whole_has_all : (whole other all : List HistoryEntry) → IsWhole whole → ClosesLast all → IsPrefix whole all →
    IsPrefix other all → IsPrefix other whole
whole_has_all whole other all is last begins also =
    let ends = whole_ends whole is in
    let all_is : all ≡ (ends.0 ++ closed_entry ∷ []) ++ begins.0 = sym begins.1
    ∙ ap (λ (l : List HistoryEntry). l ++ begins.0) ends.1 in
    let none = none_behind ends.0 begins.0 (subst ClosesLast all_is last) in
    let same : all ≡ whole = sym begins.1 ∙ (ap (λ (l : List HistoryEntry). whole ++ l) none ∙ append-nil whole) in
    subst (λ (l : List HistoryEntry). IsPrefix other l) same also

-- the last of some events
pub last-push : (es : List PlainEvent) (e : PlainEvent) (answer : PlainAnswer)
    → last_of (es ++ e ∷ []) answer ≡ step_entry (record { event = e; answer = answer })
last-push [] e answer = refl
last-push (a ∷ []) e answer = refl
last-push (a ∷ b ∷ es) e answer = last-push (b ∷ es) e answer

-- a front with one step more
pub counts_step : (es : List HistoryEntry) (last : HistoryEntry) (s : PlainStep) → last ≡ step_entry s
    → length (steps_in (es ++ last ∷ [])) ≡ length (steps_in es) + 1
counts_step es last s is =
    ap (λ (e : HistoryEntry). length (steps_in (es ++ e ∷ []))) is
    ∙ (ap length (one-step es s) ∙ length-append (steps_in es) (s ∷ []))

-- which says of no letting go
pub keeps_times : (es : List HistoryEntry) (last : HistoryEntry) (s : PlainStep) → last ≡ step_entry s
    → times_let_go (es ++ last ∷ []) ≡ times_let_go es
keeps_times es last s is =
    let more : times_let_go (es ++ step_entry s ∷ []) ≡ times_let_go es + 0 = times-append es (step_entry s ∷ []) in
    ap (λ (e : HistoryEntry). times_let_go (es ++ e ∷ [])) is ∙ omega (arith, more)

-- nor does one that closes the history
pub closed-times : (es : List HistoryEntry) → times_let_go (es ++ closed_entry ∷ []) ≡ times_let_go es
closed-times es =
    let more : times_let_go (es ++ closed_entry ∷ []) ≡ times_let_go es + 0 = times-append es (closed_entry ∷ []) in
    omega (arith, more)

-- one letting go more
pub once_more : (es : List HistoryEntry) → times_let_go (es ++ let_go_entry ∷ []) ≡ times_let_go es + 1
once_more es = times-append es (let_go_entry ∷ [])

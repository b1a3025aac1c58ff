-- Histories of a hub's shards.
use Rattle.std.proofs.Common.{◌≡◌, ◌⊎◌, ℕ, zero, suc, ◌+◌, ◌<◌, ◌%◌, List, [], ◌∷◌, ◌++◌, length, Some, None, refl, ap, sym, subst, inl, inr, ◌∙◌, arith}
use Rattle.std.specs.Prelude.{slice_get, slice_index_or}
use Rattle.std.specs.List.{AllByRecursion}
use Rattle.std.proofs.lemmas.List.{length-append}
use Rattle.std.proofs.lemmas.Option.{slice_get-get_or}
use Rattle.roam_conf.specs.Config.{ConfigView}
use Rattle.roam_admission.specs.Admission.{PlainOut}
use Rattle.roam_realm.specs.RealmState.{RealmState}
use Rattle.roam_realm.specs.declared.start.Start.{Start}
use Rattle.roam_core.specs.Isolation.{packets_for}
use Rattle.roam_core.specs.ManyRealms.{answer_to, answers_to, packets_in_turn, state_at}
use Rattle.roam_core.specs.Openings.{openings}
use Rattle.roam_core.proofs.IsolationLemmas.{isolated_from_start}
use Rattle.roam_core.proofs.ProvenanceLemmas.{has_provenance}
use Rattle.roam_shard.specs.ShardView.{AreStarts, IsStart, ShardView}
use Rattle.roam_shard.specs.History.{AreSteps, end_of, states_next}
use Rattle.roam_shard.specs.Steps.{PlainAnswer, PlainStep}
use Rattle.roam_history.specs.Audit.{steps_of}
use Rattle.roam_hub.specs.Closing.{AreClosed, IsClosed}
use Rattle.roam_history.specs.Entries.{IsWhole}
use Rattle.roam_history.specs.Fronts.{AreOfShards, AreWhole, FrontView}
use Rattle.roam_history.specs.HubOpening.{HubOpening, opening_at}
use Rattle.roam_hub.specs.Histories.{AreHistories, start_at_end, starts_at_end, starts_from, state_at_end}
use Rattle.roam_hub.specs.InHistories.{ProvenanceInHistories, RealmsInHistories, events_in, packets_in}

-- what was sent in some steps is what the written broker answers to their events
pub sent_in : (config : ConfigView) (shard : ℕ) (states : List RealmState) (steps : List PlainStep) →
    AreSteps config shard states steps → packets_in steps ≡ (answers_to config states (events_in steps)).packets
sent_in config shard states [] are = refl
sent_in config shard states (s ∷ ss) are =
    let here : s.answer.packets ≡ packets_in_turn (answer_to config states s.event) =
    ap (λ (a : PlainAnswer). a.packets) are.0.answer in
    let rest = sent_in config shard (states_next config states s.event) ss are.1 in
    λ j. here j ++ rest j

pub realms_in_histories : RealmsInHistories
realms_in_histories o steps realm some within history =
    ap (λ (l : List PlainOut). packets_for realm l)
    (sent_in o.config o.shard (openings o.config o.starts) steps history)
    ∙ isolated_from_start o.config o.starts (events_in steps) some realm within

pub provenance_in_histories : ProvenanceInHistories
provenance_in_histories o steps some history =
    has_provenance o.config o.starts (events_in steps) (packets_in steps)
    (λ realm within. realms_in_histories o steps realm some within history)

-- one shard more that was taken apart
pub get-push : {X : Type 0} (xs : List X) (x y : X) (k : ℕ) → slice_get (xs ++ x ∷ []) k ≡ Some y →
    ((k ≡ length xs) × (x ≡ y)) ⊎ ((k < length xs) × (slice_get xs k ≡ Some y))
get-push [] x y zero at = (let some : Some x ≡ Some y = at in let is : x ≡ y = cc in inl (refl, is))
get-push [] x y (suc k) at = absurd (let bad : None ≡ Some y = at in cc)
get-push (z ∷ zs) x y zero at = inr (omega arith, at)
get-push (z ∷ zs) x y (suc k) at =
    elim (get-push zs x y k at) as (λ _. ((suc k ≡ length (z ∷ zs)) × (x ≡ y))
    ⊎ ((suc k < length (z ∷ zs)) × (slice_get (z ∷ zs) (suc k) ≡ Some y))) [
      | inl last ↦ inl (ap suc last.0, last.1)
      | inr there ↦ inr ((let lt = there.0 in omega (arith, lt)), there.1)
    ]

-- one front more
pub push_shards : (fs : List FrontView) (f : FrontView) → AreOfShards fs → f.shard ≡ length fs →
    AreOfShards (fs ++ f ∷ [])
push_shards fs f are is k g at = elim (get-push fs f g k at) as (λ _. g.shard ≡ k) [
  | inl last ↦ ap (λ (h : FrontView). h.shard) (sym last.1) ∙ (is ∙ sym last.0)
  | inr there ↦ are k g there.1
]

pub no_shards : AreOfShards []
no_shards k g at = absurd (let bad : None ≡ Some g = at in cc)

pub push_whole : (fs : List FrontView) (f : FrontView) → AreWhole fs → IsWhole f.entries → AreWhole (fs ++ f ∷ [])
push_whole fs f are is k g at = elim (get-push fs f g k at) as (λ _. IsWhole g.entries) [
  | inl last ↦ subst (λ (h : FrontView). IsWhole h.entries) last.1 is
  | inr there ↦ are k g there.1
]

pub none_whole : AreWhole []
none_whole k g at = absurd (let bad : None ≡ Some g = at in cc)

pub none_closed : (o : HubOpening) → AreClosed o 0 [] []
none_closed o = record {
  shard_count = refl;
  step_count = refl;
  each =
      λ k s ss at. absurd (let bad : None ≡ Some s = at in cc);
}

pub one_more_closed : (o : HubOpening) (count : ℕ) (shards : List ShardView) (steps : List (List PlainStep))
    (s : ShardView) (ss : List PlainStep)
    → AreClosed o count shards steps → IsClosed o count s ss →
    AreClosed o (count + 1) (shards ++ s ∷ []) (steps ++ ss ∷ [])
one_more_closed o count shards steps s ss are one = record {
  shard_count = omega (arith, length-append shards (s ∷ []), are.shard_count);
  step_count = omega (arith, length-append steps (ss ∷ []), are.step_count);
  each = λ k t ts at also. elim (get-push shards s t k at) as (λ _. IsClosed o k t ts) [
    | inl last ↦ elim (get-push steps ss ts k also) as (λ _. IsClosed o k t ts) [
      | inl its ↦ (
          let is : count ≡ k = sym are.shard_count ∙ sym last.0 in
          subst (λ (n : ℕ). IsClosed o n t ts) is
          (subst (λ (x : ShardView). IsClosed o count x ts) last.1
          (subst (λ (x : List PlainStep). IsClosed o count s x) its.1 one)))
      | inr earlier ↦ absurd (let lt = earlier.0 in let is = last.0 in
          omega (arith, lt, is, are.shard_count, are.step_count))
    ]
    | inr there ↦ elim (get-push steps ss ts k also) as (λ _. IsClosed o k t ts) [
      | inl its ↦ absurd (let lt = there.0 in let is = its.0 in omega (arith, lt, is, are.shard_count, are.step_count))
      | inr earlier ↦ are.each k t ts there.1 earlier.1
    ]
  ];
}

-- the steps of a shard that was taken apart
pub steps-there : (steps : List (List PlainStep)) (k : ℕ) → k < length steps →
    slice_get steps k ≡ Some (steps_of steps k)
steps-there steps k lt = slice_get-get_or steps k [] lt

pub closed_histories : (o : HubOpening) (count : ℕ) (shards : List ShardView) (steps : List (List PlainStep)) →
    AreClosed o count shards steps → count ≡ o.config.shards → AreHistories o steps
closed_histories o count shards steps are all = record {
  count = are.step_count ∙ all;
  each = λ k lt. (are.each k (slice_index_or shards k (nobody o)) (steps_of steps k)
      (slice_get-get_or shards k (nobody o) (omega (arith, lt, are.shard_count, are.step_count)))
      (steps-there steps k lt)).history;
}
  where
    nobody : HubOpening → ShardView
    nobody o = record { opening = record { shard = 0; config = o.config; starts = [] }; states = [] }

-- where a realm stands is where its shard stands
pub start_closed : (o : HubOpening) (count : ℕ) (shards : List ShardView) (steps : List (List PlainStep))
    (k realm : ℕ) (s : ShardView) (start : Start)
    → AreClosed o count shards steps → slice_get shards k ≡ Some s → k < count → k ≡ realm % o.config.shards
    → start.place ≡ (state_at s.states realm).stream_position → start.ticket ≡ (state_at s.states realm).ticket →
    start ≡ start_at_end o steps realm
start_closed o count shards steps k realm s start are at lt is place ticket =
    let one = are.each k s (steps_of steps k) at (steps-there steps k (omega (arith, lt, are.step_count))) in
    let state : state_at s.states realm ≡ state_at_end o steps realm =
    ap (λ (l : List RealmState). state_at l realm) one.states
    ∙ ap (λ (n : ℕ). state_at (end_of (opening_at o n) (steps_of steps n)) realm) is in
    let first = place ∙ ap (λ (x : RealmState). x.stream_position) state in
    let next = ticket ∙ ap (λ (x : RealmState). x.ticket) state in
    λ j. record { place = first j; ticket = next j }

starts-more : (o : HubOpening) (steps : List (List PlainStep)) (r n : ℕ) →
    starts_from o steps r (suc n) ≡ starts_from o steps r n ++ start_at_end o steps (r + n) ∷ []
unfolding starts_from
starts-more o steps r zero = (let e : r ≡ r + 0 = omega arith in ap (λ (q : ℕ). start_at_end o steps q ∷ []) e)
starts-more o steps r (suc n) =
    let e : r + 1 + n ≡ r + suc n = omega arith in
    ap (λ (l : List Start). start_at_end o steps r ∷ l) (starts-more o steps (r + 1) n
    ∙ ap (λ (q : ℕ). starts_from o steps (r + 1) n ++ start_at_end o steps q ∷ []) e)

-- the starts of the first realms
pub record AreFirstStarts (o : HubOpening) (steps : List (List PlainStep)) (count : ℕ) (starts : List Start) : Type 0
  where
    pub are : starts ≡ starts_from o steps 0 count
    pub each : AllByRecursion IsStart starts
    pub number : length starts ≡ count

pub no_starts : (o : HubOpening) (steps : List (List PlainStep)) → AreFirstStarts o steps 0 []
unfolding starts_from
no_starts o steps = record { are = refl; each = tt; number = refl }

each-push : (starts : List Start) (s : Start) → AllByRecursion IsStart starts → IsStart s →
    AllByRecursion IsStart (starts ++ s ∷ [])
each-push [] s each one = (one, tt)
each-push (x ∷ xs) s each one = (each.0, each-push xs s each.1 one)

pub one_start_more : (o : HubOpening) (steps : List (List PlainStep)) (count : ℕ) (starts : List Start) (s : Start) →
    AreFirstStarts o steps count starts → s ≡ start_at_end o steps count → IsStart s →
    AreFirstStarts o steps (count + 1) (starts ++ s ∷ [])
one_start_more o steps count starts s first is good = record {
  are = (let e : count + 1 ≡ suc count = omega arith in let z : 0 + count ≡ count = omega arith in
      ap (λ (l : List Start). l ++ s ∷ []) first.are
      ∙ ap (λ (x : Start). starts_from o steps 0 count ++ x ∷ []) (is
      ∙ ap (λ (q : ℕ). start_at_end o steps q) (sym z))
      ∙ sym (starts-more o steps 0 count) ∙ ap (λ (n : ℕ). starts_from o steps 0 n) (sym e));
  each = each-push starts s first.each good;
  number = omega (arith, length-append starts (s ∷ []), first.number);
}

pub all_starts : (o : HubOpening) (steps : List (List PlainStep)) (count : ℕ) (starts : List Start) →
    AreFirstStarts o steps count starts → count ≡ length o.config.realms → starts ≡ starts_at_end o steps
all_starts o steps count starts first all = first.are ∙ ap (λ (n : ℕ). starts_from o steps 0 n) all

pub good_starts : (o : HubOpening) (steps : List (List PlainStep)) (count : ℕ) (starts : List Start) →
    AreFirstStarts o steps count starts → count ≡ length o.config.realms → AreStarts o.config starts
good_starts o steps count starts first all = record { each = first.each; count = first.number ∙ all }

-- What is lost where shards of a paused hub follow another configuration.
use Rattle.std.proofs.Common.{◌≡◌, ◌≢◌, ℕ, zero, suc, ◌+◌, ◌%◌, ◌<◌, ◌≤◌, ◌==◌, ◌&&◌, ◌∙◌, Bool, true, false, List, [], ◌∷◌, ◌++◌, length, set, Some, None, refl, ap, sym, subst, inl, inr, arith}
use Rattle.std.specs.Prelude.{slice_get, slice_index_or, not, Result, Ok, Err, OnErr}
use Rattle.std.specs.List.{insert, list_all, remove}
use Rattle.std.proofs.Math.Nat.{mod-lt}
use Rattle.std.proofs.lemmas.Bool.{and_from, and_parts, cases_Bool, eq-eqb, eqb-true, true≢false}
use Rattle.std.proofs.lemmas.List.{length-append}
use Rattle.std.proofs.lemmas.Option.{slice_get-get_or, slice_get_cases, slice_get_within}
use Rattle.roam_conf.specs.Config.{ConfigView}
use Rattle.roam_reload.specs.Reload.{IsCarried}
use Rattle.roam_realm.specs.RealmState.{RealmState}
use Rattle.roam_migrate.specs.Carrying.{shown_loss}
use Rattle.roam_migrate.specs.Losses.{LossView}
use Rattle.roam_migrate.specs.declared.losses.Loss.{Loss}
use Rattle.roam_core.specs.ManyRealms.{state_at}
use Rattle.roam_shard.specs.Looks.{IsLoss}
use Rattle.roam_shard.specs.Pausing.{StandsStill, StandsUnder, opening_under, states_under}
use Rattle.roam_shard.specs.ShardView.{OpeningView, ShardView}
use Rattle.roam_shard.specs.declared.paused.Paused.{Paused}
use Rattle.roam_shard.specs.Following.{StandAsBefore}
use Rattle.roam_shard.specs.Losing.{AreLosses, IsLossIn, LosesNothing, NothingIsLost, SomethingIsLost, beside_replies, no_loss}
use Rattle.roam_shard.specs.Paused.{ArePaused}
use Rattle.roam_shard.specs.Private.Nothing.{is_nothing}
use Rattle.roam_shard.proofs.FollowingHubLemmas.{get-push, still_one}

-- one is taken out, and another put in its place
insert-remove : {X : Type 0} (xs : List X) (i : ℕ) (q : X) → i < length xs
    → insert (remove xs i) i q ≡ set xs i q
insert-remove [] i q lt = absurd (omega (arith, lt))
insert-remove (x ∷ xs) zero q lt = refl
insert-remove {X} (x ∷ xs) (suc i) q lt = ap (λ (l : List X). x ∷ l) (insert-remove xs i q (omega (arith, lt)))

-- the test says so
abbrev lost_of : ℕ → ℕ → ℕ → LossView
lost_of waiting held sessions = record { waiting = waiting; held = held; sessions = sessions }

nothing_shown : (loss : Loss) → is_nothing loss ≡ true → beside_replies (shown_loss loss) ≡ no_loss
nothing_shown loss is =
    let parts = and_parts (loss.waiting == 0) (loss.sessions == 0) is in
    ap (λ (n : ℕ). lost_of n 0 loss.sessions) (eqb-true loss.waiting 0 parts.0)
    ∙ ap (λ (n : ℕ). lost_of 0 0 n) (eqb-true loss.sessions 0 parts.1)

something_shown : (loss : Loss) → is_nothing loss ≡ false → beside_replies (shown_loss loss) ≢ no_loss
something_shown loss isnt shown =
    let waiting : loss.waiting ≡ 0 = ap (λ (v : LossView). v.waiting) shown in
    let sessions : loss.sessions ≡ 0 = ap (λ (v : LossView). v.sessions) shown in
    let is : is_nothing loss ≡ true =
    and_from (loss.waiting == 0) (loss.sessions == 0) (eq-eqb loss.waiting 0 waiting)
    (eq-eqb loss.sessions 0 sessions) in
    true≢false (sym is ∙ isnt)

-- the same of what equals it
alike : (a b : LossView) → a ≡ b → beside_replies a ≡ beside_replies b
alike a b same = ap (λ (v : LossView). beside_replies v) same

rest_isnt : (a b : Bool) → a ≡ true → (a && b) ≡ false → b ≡ false
rest_isnt true b is both = both
rest_isnt false b is both = absurd (let bad : false ≡ true = is in cc)

there_is : {X : Type 0} (xs : List X) (k : ℕ) → k < length xs → (x : X) × (slice_get xs k ≡ Some x)
there_is xs k within = elim (slice_get_cases xs k).1 [
  | inl here ↦ (here.0, here.2)
  | inr past ↦ absurd (omega (arith, within, past.0))
]

-- when it is refused, and when not
pub refused_by : (agreed nothing : Bool) → (not agreed && not nothing) ≡ true → (agreed ≡ false) × (nothing ≡ false)
refused_by true nothing is = absurd (let bad : false ≡ true = is in cc)
refused_by false true is = absurd (let bad : false ≡ true = is in cc)
refused_by false false is = (refl, refl)

pub allowed_by : (agreed nothing : Bool) → (not agreed && not nothing) ≡ false → agreed ≡ false → nothing ≡ true
allowed_by true nothing passed disagreed = absurd (let bad : true ≡ false = disagreed in cc)
allowed_by false true passed disagreed = refl
allowed_by false false passed disagreed = absurd (let bad : true ≡ false = passed in cc)

-- what stands where a call failed, whichever error it became
pub on_err : {X E P : Type 0} (r : Result X E) → P → OnErr r P
on_err (Ok x) p = tt
on_err (Err e) p = p

-- where all are nothing, each is; where not all are, one isn't
each_nothing : (losses : List Loss) → list_all is_nothing losses ≡ true → (k : ℕ) (loss : Loss)
    → slice_get losses k ≡ Some loss → is_nothing loss ≡ true
each_nothing [] all k loss at = absurd (let bad : None ≡ Some loss = at in cc)
each_nothing (l ∷ ls) all zero loss at =
    let some : Some l ≡ Some loss = at in
    let is : l ≡ loss = cc in
    subst (λ (x : Loss). is_nothing x ≡ true) is (and_parts (is_nothing l) (list_all is_nothing ls) all).0
each_nothing (l ∷ ls) all (suc k) loss at =
    each_nothing ls (and_parts (is_nothing l) (list_all is_nothing ls) all).1 k loss at

pub record Found (losses : List Loss) : Type 0 where
  pub place : ℕ
  pub loss : Loss
  pub at : slice_get losses place ≡ Some loss
  pub isnt : is_nothing loss ≡ false

one_or_further : (l : Loss) (ls : List Loss) → list_all is_nothing (l ∷ ls) ≡ false
    → (list_all is_nothing ls ≡ false → Found ls) → Found (l ∷ ls)
one_or_further l ls some further = elim (cases_Bool (is_nothing l)) as (λ _. Found (l ∷ ls)) [
  | inl is ↦ (
      let rest : list_all is_nothing ls ≡ false = rest_isnt (is_nothing l) (list_all is_nothing ls) is some in
      let found = further rest in
      record { place = suc found.place; loss = found.loss; at = found.at; isnt = found.isnt })
  | inr isnt ↦ record { place = 0; loss = l; at = refl; isnt = isnt }
]

one_of : (losses : List Loss) → list_all is_nothing losses ≡ false → Found losses
one_of [] some = absurd (let bad : true ≡ false = some in cc)
one_of (l ∷ ls) some = one_or_further l ls some (one_of ls)

-- where one isn't, something is
loses : (old new : ConfigView) (realm : ℕ) (s : RealmState) (loss : Loss) → IsLoss old new realm s loss
    → is_nothing loss ≡ false → ¬ LosesNothing old new realm s
loses old new realm s loss is isnt nothing =
    let ne = something_shown loss isnt in
    let gone : ¬ IsCarried old new realm = λ c. ne (alike _ _ (is.carried c) ∙ nothing.carried c) in
    ne (alike _ _ (is.gone gone) ∙ nothing.gone gone)

module _ {A : Type 0} where
  pub as_before : (old : ConfigView) (shards : List (Paused A)) → ArePaused old shards → StandAsBefore old shards shards
  as_before old shards paused = record {
    paused = paused;
    states = λ k p q at also. (
        let same : Some p ≡ Some q = sym at ∙ also in let is : p ≡ q = cc in ap (states_under old) (sym is));
  }

  -- one resumed, and paused again
  pub paused_again : (old : ConfigView) (p q : Paused A) (s : ShardView) → s.opening ≡ opening_under old p
      → s.states ≡ states_under old p → StandsUnder s.opening.config q → states_under s.opening.config q ≡ s.states
      → q.shard ≡ s.opening.shard → StandsStill old p q
  paused_again old p q s opening states stands after shard = record {
    stands = subst (λ (o : OpeningView). StandsUnder o.config q) opening stands;
    states = subst (λ (o : OpeningView). states_under o.config q ≡ states_under old p) opening (after ∙ states);
    shard = shard ∙ ap (λ (o : OpeningView). o.shard) opening;
  }

  -- one still, and put back
  pub put_back : (old : ConfigView) (shards left after : List (Paused A)) (k : ℕ) (p q : Paused A)
      → ArePaused old shards
      → slice_get shards k ≡ Some p → left ≡ remove shards k → after ≡ insert left k q → StandsStill old p q
      → StandAsBefore old shards after
  put_back old shards left after k p q paused at left_is after_is still =
      let lt = slice_get_within shards k p at in
      let is : after ≡ set shards k q =
      after_is ∙ ap (λ (l : List (Paused A)). insert l k q) left_is ∙ insert-remove shards k q lt in
      subst (λ (l : List (Paused A)). StandAsBefore old shards l) (sym is)
      (still_one old shards shards k p q (as_before old shards paused) at still)

  -- one after the other, they still stand as before
  pub and_then_before : (old : ConfigView) (first before after : List (Paused A)) → ArePaused old first
      → StandAsBefore old first before → StandAsBefore old before after → StandAsBefore old first after
  and_then_before old first before after paused one two = record {
    paused = two.paused;
    states = λ k p q at also. (
        let lt = slice_get_within first k p at in
        let m = slice_index_or before k p in
        let there : slice_get before k ≡ Some m =
        slice_get-get_or before k p (omega (arith, lt, paused.count, one.paused.count)) in
        two.states k m q there also ∙ one.states k p m at there);
  }

  -- what is lost of a realm's state in its shard
  pub loss_there : (old new : ConfigView) (shards : List (Paused A)) (k realm : ℕ) (p : Paused A) (loss : Loss)
      → k ≡ realm % old.shards → slice_get shards k ≡ Some p
      → IsLoss old new realm (state_at (states_under old p) realm) loss → IsLossIn old new shards realm loss
  loss_there old new shards k realm p loss is at lost = λ q there.
      let same : Some p ≡ Some q = sym at ∙ ap (slice_get shards) is ∙ there in
      let alike : p ≡ q = cc in
      subst (λ (x : Paused A). IsLoss old new realm (state_at (states_under old x) realm) loss) alike lost

  -- what is lost of where they stand is lost of where they stood
  pub loss_before : (old new : ConfigView) (first before : List (Paused A)) (realm : ℕ) (loss : Loss)
      → ArePaused old first → StandAsBefore old first before → IsLossIn old new before realm loss
      → IsLossIn old new first realm loss
  loss_before old new first before realm loss paused still is = λ p at.
      let k = realm % old.shards in
      let lt = slice_get_within first k p at in
      let q = slice_index_or before k p in
      let there : slice_get before k ≡ Some q =
      slice_get-get_or before k p (omega (arith, lt, paused.count, still.paused.count)) in
      subst (λ (s : List RealmState). IsLoss old new realm (state_at s realm) loss) (still.states k p q at there)
      (is q there)

  -- Realm after realm is looked at
  pub record AreLossesSoFar (old new : ConfigView) (first shards : List (Paused A)) (losses : List Loss) (count : ℕ)
      : Type 0 where
    pub still : StandAsBefore old first shards
    pub number : length losses ≡ count
    pub each : (realm : ℕ) (loss : Loss) → slice_get losses realm ≡ Some loss → IsLossIn old new first realm loss

  pub none_looked_at : (old new : ConfigView) (shards : List (Paused A)) → ArePaused old shards
      → AreLossesSoFar old new shards shards [] 0
  none_looked_at old new shards paused = record {
    still = as_before old shards paused;
    number = refl;
    each = λ realm loss at. absurd (let bad : None ≡ Some loss = at in cc);
  }

  pub one_more_looked_at : (old new : ConfigView) (first before after : List (Paused A)) (losses : List Loss)
      (count : ℕ) (loss : Loss) → ArePaused old first → AreLossesSoFar old new first before losses count
      → StandAsBefore old before after → IsLossIn old new before count loss
      → AreLossesSoFar old new first after (losses ++ loss ∷ []) (count + 1)
  one_more_looked_at old new first before after losses count loss paused are still is = record {
    still = and_then_before old first before after paused are.still still;
    number = (let number = are.number in omega (arith, number, length-append losses (loss ∷ [])));
    each = λ realm other at. elim (get-push losses loss other realm at) as (λ _. IsLossIn old new first realm other) [
      | inl last ↦ subst (λ (l : Loss). IsLossIn old new first realm l) last.1
          (subst (λ (n : ℕ). IsLossIn old new first n loss) (sym (last.0 ∙ are.number))
          (loss_before old new first before count loss paused are.still is))
      | inr earlier ↦ are.each realm other earlier.1
    ];
  }

  pub all_looked_at : (old new : ConfigView) (first shards : List (Paused A)) (losses : List Loss) (count : ℕ)
      → AreLossesSoFar old new first shards losses count → count ≡ length old.realms
      → AreLosses old new first losses
  all_looked_at old new first shards losses count are all = record { count = are.number ∙ all; each = are.each }

  -- Where all are nothing, nothing is lost
  pub nothing_lost : (old new : ConfigView) (shards : List (Paused A)) (losses : List Loss)
      → AreLosses old new shards losses → list_all is_nothing losses ≡ true → NothingIsLost old new shards
  nothing_lost old new shards losses are all = λ realm p within at.
      let none : Loss = record { waiting = 0; held = 0; sessions = 0 } in
      let loss = slice_index_or losses realm none in
      let there : slice_get losses realm ≡ Some loss =
      slice_get-get_or losses realm none (omega (arith, within, are.count)) in
      let is = are.each realm loss there p at in
      let shown = nothing_shown loss (each_nothing losses all realm loss there) in
      record {
        carried = λ c. alike _ _ (sym (is.carried c)) ∙ shown;
        gone = λ n. alike _ _ (sym (is.gone n)) ∙ shown;
      }

  -- where one isn't nothing, something is lost
  pub something_lost : (old new : ConfigView) (shards : List (Paused A)) (losses : List Loss) → 1 ≤ old.shards
      → ArePaused old shards → AreLosses old new shards losses → list_all is_nothing losses ≡ false
      → SomethingIsLost old new shards
  something_lost old new shards losses some paused are one =
      let found = one_of losses one in
      let within = slice_get_within losses found.place found.loss found.at in
      let k = found.place % old.shards in
      let lt : k < old.shards = mod-lt found.place (omega (arith, some)) in
      let there = there_is shards k (omega (arith, lt, paused.count)) in
      record {
        realm = found.place;
        shard = there.0;
        configured = omega (arith, within, are.count);
        at = there.1;
        loses = loses old new found.place (state_at (states_under old there.0) found.place) found.loss
            (are.each found.place found.loss found.at there.0 there.1) found.isnt;
      }

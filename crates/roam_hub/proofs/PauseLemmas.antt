-- Shards that are taken from their configuration.
use Rattle.std.proofs.Common.{◌≡◌, ℕ, suc, ◌+◌, List, [], ◌∷◌, ◌++◌, length, Some, None, ap, sym, subst, inl, inr, ◌∙◌, arith}
use Rattle.std.specs.Prelude.{slice_get, slice_index_or}
use Rattle.std.specs.declared.vec.Vec.{Vec}
use Rattle.std.proofs.lemmas.List.{length-append}
use Rattle.std.proofs.lemmas.Option.{slice_get-get_or, slice_get_within}
use Rattle.roam_conf.specs.Config.{ConfigView}
use Rattle.roam_shard.specs.Pausing.{StandsUnder, states_under}
use Rattle.roam_shard.specs.ShardView.{ShardView}
use Rattle.roam_shard.specs.declared.paused.Paused.{Paused}
use Rattle.roam_shard.specs.Steps.{PlainStep}
use Rattle.roam_history.specs.HubOpening.{HubOpening}
use Rattle.roam_history.specs.Audit.{steps_of}
use Rattle.roam_hub.specs.Closing.{AreClosed, HasRoom}
use Rattle.roam_hub.specs.Pausing.{ArePaused, ArePausedShards, IsPausedShard, StandAtEnd}
use Rattle.roam_hub.proofs.HubLemmas.{get-push, steps-there}

pub has_room : {X A : Type 0} (n m : ℕ) (v : Vec X A) → m ≡ n → HasRoom n v → HasRoom m v
has_room n m v same has = record { empty = has.empty; room = (let room = has.room in omega (arith, same, room)) }

module _ {A : Type 0} where
  -- the first shards were taken from their configuration, and these are left
  pub record ArePausedSoFar (shards left : List ShardView) (paused : List (Paused A)) : Type 0 where
    pub each : (k : ℕ) (s : ShardView) (p : Paused A) → slice_get shards k ≡ Some s → slice_get paused k ≡ Some p
        → IsPausedShard s p
    pub behind : (k : ℕ) → slice_get left k ≡ slice_get shards (length paused + k)
    pub count : length paused + length left ≡ length shards

  pub none_paused : (shards : List ShardView) → ArePausedSoFar shards shards []
  none_paused shards = record {
    each = λ k s p at also. absurd (let bad : None ≡ Some p = also in cc);
    behind = λ k. (let e : k ≡ 0 + k = omega arith in ap (slice_get shards) e);
    count = omega arith;
  }

  pub one_more_paused : (shards left : List ShardView) (paused : List (Paused A)) (s : ShardView)
      (ss : List ShardView) (p : Paused A)
      → ArePausedSoFar shards left paused → left ≡ s ∷ ss → IsPausedShard s p →
      ArePausedSoFar shards ss (paused ++ p ∷ [])
  one_more_paused shards left paused s ss p are is one = record {
    each = λ k t q at also. elim (get-push paused p q k also) as (λ _. IsPausedShard t q) [
      | inl last ↦ (
          let first : slice_get left 0 ≡ Some s = ap (λ (l : List ShardView). slice_get l 0) is in
          let e : length paused + 0 ≡ k = (let at_end = last.0 in omega (arith, at_end)) in
          let here : Some s ≡ Some t = sym first ∙ are.behind 0 ∙ ap (slice_get shards) e ∙ at in
          let same : s ≡ t = cc in
          subst (λ (x : ShardView). IsPausedShard x q) same (subst (λ (y : Paused A). IsPausedShard s y) last.1 one))
      | inr there ↦ are.each k t q at there.1
    ];
    behind = λ k. (
        let e : length paused + suc k ≡ length (paused ++ p ∷ []) + k = omega (arith, length-append paused (p ∷ [])) in
        ap (λ (l : List ShardView). slice_get l (suc k)) (sym is) ∙ are.behind (suc k) ∙ ap (slice_get shards) e);
    count = (let short = ap length is in let count = are.count in
        omega (arith, short, count, length-append paused (p ∷ [])));
  }

  pub all_paused : (shards left : List ShardView) (paused : List (Paused A)) → ArePausedSoFar shards left paused →
      length left ≡ 0
      → ArePausedShards shards paused
  all_paused shards left paused are none = record { count = omega (arith, are.count, none); each = are.each }

  module _ (o : HubOpening) (count : ℕ) (shards : List ShardView) (steps : List (List PlainStep))
      (paused : List (Paused A))
      (closed : AreClosed o count shards steps) (are : ArePausedShards shards paused) where
    nobody : ShardView
    nobody = record { opening = record { shard = 0; config = o.config; starts = [] }; states = [] }

    shard_at : (k : ℕ) (p : Paused A) → slice_get paused k ≡ Some p →
        slice_get shards k ≡ Some (slice_index_or shards k nobody)
    shard_at k p at =
        let lt = slice_get_within paused k p at in
        slice_get-get_or shards k nobody (omega (arith, lt, are.count))

    steps_at : (k : ℕ) (p : Paused A) → slice_get paused k ≡ Some p → slice_get steps k ≡ Some (steps_of steps k)
    steps_at k p at =
        let lt = slice_get_within paused k p at in
        steps-there steps k (omega (arith, lt, are.count, closed.shard_count, closed.step_count))

    -- they stand under the hub's configuration, each where its history ends
    pub closed_paused : count ≡ o.config.shards → ArePaused o.config paused
    closed_paused all = record {
      count = are.count ∙ closed.shard_count ∙ all;
      each = λ k p at. (
          let s = slice_index_or shards k nobody in
          let its = are.each k s p (shard_at k p at) at in
          let one = closed.each k s (steps_of steps k) (shard_at k p at) (steps_at k p at) in
          record {
            shard = its.shard ∙ one.shard;
            stands = subst (λ (x : ConfigView). StandsUnder x p) one.config its.stands;
          });
    }

    pub stand_at_end : StandAtEnd o steps paused
    stand_at_end k p at =
        let s = slice_index_or shards k nobody in
        let its = are.each k s p (shard_at k p at) at in
        let one = closed.each k s (steps_of steps k) (shard_at k p at) (steps_at k p at) in
        ap (λ (x : ConfigView). states_under x p) (sym one.config) ∙ its.states ∙ one.states

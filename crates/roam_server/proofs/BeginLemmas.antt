-- How a server begins.
use Rattle.std.proofs.Common.{◌≡◌, ◌⊎◌, ℕ, zero, suc, ◌+◌, ◌<◌, List, [], ◌∷◌, ◌++◌, ◌∙◌, length, Some, None, Ok, Err, inl, inr, refl, ap, sym, subst, arith}
use Rattle.std.specs.Prelude.{IfOk, Result, slice_get}
use Rattle.std.proofs.lemmas.List.{length-append}
use Rattle.roam_conf.specs.Config.{ConfigView}
use Rattle.roam_sessions.specs.Ledgers.{SavedItem}
use Rattle.roam_realm.specs.RealmState.{RealmState}
use Rattle.roam_realm.specs.declared.start.Start.{Start}
use Rattle.roam_core.specs.Openings.{fresh, fresh_starts, openings}
use Rattle.roam_shard.specs.ShardView.{OpeningView, ShardView}
use Rattle.roam_shard.specs.Pausing.{StandsUnder, opening_under, states_under}
use Rattle.roam_shard.specs.Restoring.{restored_states}
use Rattle.roam_shard.specs.declared.paused.Paused.{Paused}
use Rattle.roam_shard.specs.Paused.{IsPaused}
use Rattle.roam_server.specs.Begins.{HasBegun, HaveBegun}

-- what stands in a list with one more
get-push : {X : Type 0} (xs : List X) (x y : X) (k : ℕ) → slice_get (xs ++ x ∷ []) k ≡ Some y →
    ((k ≡ length xs) × (x ≡ y)) ⊎ ((k < length xs) × (slice_get xs k ≡ Some y))
get-push [] x y zero at = (let some : Some x ≡ Some y = at in let is : x ≡ y = cc in inl (refl, is))
get-push [] x y (suc k) at = absurd (let bad : None ≡ Some y = at in cc)
get-push (z ∷ zs) x y zero at = inr (omega arith, at)
get-push (z ∷ zs) x y (suc k) at =
    elim (get-push zs x y k at) as (λ _. ((suc k ≡ length (z ∷ zs)) × (x ≡ y))
    ⊎ ((suc k < length (z ∷ zs)) × (slice_get (z ∷ zs) (suc k) ≡ Some y))) [
      | inl last ↦ inl (ap suc last.0, last.1)
      | inr there ↦ inr ((let lt = there.0 in omega (arith, lt)), there.1)
    ]

-- what holds of these items holds of some
pub by-some : {X E : Type 0} (r : Result X E) (items : List SavedItem) (P : List SavedItem → X → Type 0)
    → IfOk r (P items) → IfOk r (λ x. (some : List SavedItem) × P some x)
by-some (Ok x) items P holds = (items, holds)
by-some (Err e) items P holds = tt

module _ {A : Type 0} where
  -- a shard that was opened and taken from its configuration
  pub opened-paused : (config : ConfigView) (number : ℕ) (starts : List Start) (s : ShardView) (p : Paused A)
      → s.opening ≡ record { shard = number; config = config; starts = starts } → p.shard ≡ s.opening.shard
      → StandsUnder s.opening.config p → IsPaused config number p
  opened-paused config number starts s p opens shard stands = record {
    shard = shard ∙ ap (λ (o : OpeningView). o.shard) opens;
    stands = subst (λ (o : OpeningView). StandsUnder o.config p) opens stands;
  }

  -- and its realms at their first start
  pub opened-fresh : (config : ConfigView) (number : ℕ) (starts : List Start) (s : ShardView) (p : Paused A)
      → s.opening ≡ record { shard = number; config = config; starts = starts }
      → states_under s.opening.config p ≡ s.states → s.states ≡ openings config starts
      → starts ≡ fresh_starts config → states_under config p ≡ fresh config
  opened-fresh config number starts s p opens states begins first =
      subst (λ (o : OpeningView). states_under o.config p ≡ fresh config) opens
      (states ∙ begins ∙ ap (openings config) first)

  -- it took up what a file has, and stands still
  pub taken-up : (config : ConfigView) (items : List SavedItem) (number : ℕ) (p q r : Paused A) (t : ShardView)
      → IsPaused config number p → states_under config p ≡ fresh config → q.shard ≡ p.shard
      → states_under config q ≡ restored_states config p.shard items (states_under config p)
      → t.opening ≡ opening_under config q → t.states ≡ states_under config q → StandsUnder t.opening.config r
      → states_under t.opening.config r ≡ t.states → r.shard ≡ t.opening.shard → HasBegun config items number r
  taken-up config items number p q r t paused first same taken opens resumed stands stood shard = record {
    paused = record {
      shard = shard ∙ ap (λ (o : OpeningView). o.shard) opens ∙ same ∙ paused.shard;
      stands = subst (λ (o : OpeningView). StandsUnder o.config r) opens stands;
    };
    states = subst (λ (o : OpeningView). states_under o.config r ≡ t.states) opens stood ∙ resumed ∙ taken
        ∙ ap (λ (s : List RealmState). restored_states config p.shard items s) first
        ∙ ap (λ (n : ℕ). restored_states config n items (fresh config)) paused.shard;
  }

  -- so many shards began
  pub record HaveBegunSoFar (config : ConfigView) (items : List SavedItem) (shards : List (Paused A)) (count : ℕ)
      : Type 0 where
    pub number : length shards ≡ count
    pub each : (k : ℕ) (p : Paused A) → slice_get shards k ≡ Some p → HasBegun config items k p

  pub none-begun : (config : ConfigView) (items : List SavedItem) → HaveBegunSoFar config items [] 0
  none-begun config items =
      record { number = refl; each = λ k p at. absurd (let bad : None ≡ Some p = at in cc) }

  pub one-more-begun : (config : ConfigView) (items : List SavedItem) (shards : List (Paused A)) (count : ℕ)
      (p : Paused A) → HaveBegunSoFar config items shards count → HasBegun config items count p
      → HaveBegunSoFar config items (shards ++ p ∷ []) (count + 1)
  one-more-begun config items shards count p are one = record {
    number = (let number = are.number in omega (arith, number, length-append shards (p ∷ [])));
    each = λ k q at. elim (get-push shards p q k at) as (λ _. HasBegun config items k q) [
      | inl last ↦ (
          let is : k ≡ count = last.0 ∙ are.number in
          subst (λ (x : Paused A). HasBegun config items k x) last.1
          (subst (λ (n : ℕ). HasBegun config items n p) (sym is) one))
      | inr earlier ↦ are.each k q earlier.1
    ];
  }

  pub all-begun : (config : ConfigView) (items : List SavedItem) (shards : List (Paused A)) (count : ℕ)
      → HaveBegunSoFar config items shards count → count ≡ config.shards → HaveBegun config items shards
  all-begun config items shards count are all = record {
    paused = record { count = are.number ∙ all; each = λ k p at. (are.each k p at).paused };
    states = λ k p at. (are.each k p at).states;
  }

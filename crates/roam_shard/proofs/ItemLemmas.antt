-- A shard takes up a file of ledgers, one item after the other.
use Rattle.std.proofs.Common.{subst, ◌≡◌, ℕ, ◌+◌, ◌==◌, Bool, true, false, List, [], ◌∷◌, ◌++◌, ◌∙◌, Option, Some, None, refl, ap, sym}
use Rattle.std.specs.Prelude.{if◌then◌else◌}
use Rattle.std.specs.Option.{option_map_or}
use Rattle.roam_conf.specs.Config.{ConfigView}
use Rattle.roam_sessions.specs.Ledgers.{SavedItem, SavedSession, realm, session}
use Rattle.roam_realm.specs.RealmState.{RealmState}
use Rattle.roam_shard.specs.Restoring.{is_named, saved_of, sessions_behind, with_one, with_saved_from}
use Rattle.roam_shard.specs.Private.Items.{TakesUp}
use Rattle.roam_shard.proofs.TakenUpLemmas.{from-none, from-same, from-then}

-- What a file has of a realm, with one item more

-- whether the realm that stands last passes
abbrev pub here-after : (List ℕ → Bool → Bool) → Bool → List SavedItem → Bool
here-after passes here [] = here
here-after passes here (realm name own ∷ more) = here-after passes (passes name own) more
here-after passes here (session s ∷ more) = here-after passes here more

behind-realm : (passes : List ℕ → Bool → Bool) (here : Bool) (items : List SavedItem) (name : List ℕ) (own : Bool)
    → sessions_behind passes here (items ++ realm name own ∷ []) ≡ sessions_behind passes here items
behind-realm passes here [] name own = refl
behind-realm passes here (realm n o ∷ items) name own = behind-realm passes (passes n o) items name own
behind-realm passes true (session s ∷ items) name own =
    ap (λ (l : List SavedSession). s ∷ l) (behind-realm passes true items name own)
behind-realm passes false (session s ∷ items) name own = behind-realm passes false items name own

here-realm : (passes : List ℕ → Bool → Bool) (here : Bool) (items : List SavedItem) (name : List ℕ) (own : Bool)
    → here-after passes here (items ++ realm name own ∷ []) ≡ passes name own
here-realm passes here [] name own = refl
here-realm passes here (realm n o ∷ items) name own = here-realm passes (passes n o) items name own
here-realm passes here (session s ∷ items) name own = here-realm passes here items name own

behind-session : (passes : List ℕ → Bool → Bool) (here : Bool) (items : List SavedItem) (s : SavedSession)
    → sessions_behind passes here (items ++ session s ∷ [])
    ≡ sessions_behind passes here items ++ (if here-after passes here items then s ∷ [] else [])
behind-session passes true [] s = refl
behind-session passes false [] s = refl
behind-session passes here (realm n o ∷ items) s = behind-session passes (passes n o) items s
behind-session passes true (session t ∷ items) s =
    ap (λ (l : List SavedSession). t ∷ l) (behind-session passes true items s)
behind-session passes false (session t ∷ items) s = behind-session passes false items s

here-session : (passes : List ℕ → Bool → Bool) (here : Bool) (items : List SavedItem) (s : SavedSession)
    → here-after passes here (items ++ session s ∷ []) ≡ here-after passes here items
here-session passes here [] s = refl
here-session passes here (realm n o ∷ items) s = here-session passes (passes n o) items s
here-session passes here (session t ∷ items) s = here-session passes here items s

-- The items so far, and whose sessions come now

pub record AreTakenUp (config : ConfigView) (shard : ℕ) (items : List SavedItem) (own : Option ℕ)
    (before after : List RealmState) : Type 0 where
  pub states : after ≡ with_saved_from config shard (saved_of config items) 0 before
  pub whose : (r : ℕ) → here-after (is_named config r) false items ≡ option_map_or (λ k. r == k) own false

pub nothing-so-far : (config : ConfigView) (shard : ℕ) (states : List RealmState)
    → AreTakenUp config shard [] None states states
nothing-so-far config shard states = record {
  states = sym (from-none config shard (saved_of config []) 0 states (λ i le lt. refl));
  whose = λ r. refl;
}

pub realm-follows : (config : ConfigView) (shard : ℕ) (items : List SavedItem) (own next : Option ℕ)
    (before after : List RealmState) (name : List ℕ) (own_sessions : Bool)
    → AreTakenUp config shard items own before after
    → ((r : ℕ) → is_named config r name own_sessions ≡ option_map_or (λ k. r == k) next false)
    → AreTakenUp config shard (items ++ realm name own_sessions ∷ []) next before after
realm-follows config shard items own next before after name own_sessions are named = record {
  states = are.states ∙ sym (from-same config shard (saved_of config (items ++ realm name own_sessions ∷ []))
      (saved_of config items) 0 before (λ r. behind-realm (is_named config r) false items name own_sessions));
  whose = λ r. here-realm (is_named config r) false items name own_sessions ∙ named r;
}

pub session-follows : (config : ConfigView) (shard : ℕ) (items : List SavedItem) (k : ℕ)
    (before after later : List RealmState) (s : SavedSession)
    → AreTakenUp config shard items (Some k) before after → later ≡ with_one config shard k s after
    → AreTakenUp config shard (items ++ session s ∷ []) (Some k) before later
session-follows config shard items k before after later s are taken = record {
  states = taken ∙ ap (with_one config shard k s) are.states
      ∙ from-then config shard (saved_of config items) (λ other. if other == k then s ∷ [] else []) 0 before
      ∙ from-same config shard (λ r. saved_of config items r ++ (if r == k then s ∷ [] else []))
      (saved_of config (items ++ session s ∷ [])) 0 before
      (λ r. ap (λ (b : Bool). saved_of config items r ++ (if b then s ∷ [] else [])) (sym (are.whose r))
      ∙ sym (behind-session (is_named config r) false items s));
  whose = λ r. here-session (is_named config r) false items s ∙ are.whose r;
}

append-nothing : {X : Type 0} (xs : List X) → xs ++ [] ≡ xs
append-nothing [] = refl
append-nothing (x ∷ xs) = ap (λ (l : List _). x ∷ l) (append-nothing xs)

pub session-passed : (config : ConfigView) (shard : ℕ) (items : List SavedItem) (before after : List RealmState)
    (s : SavedSession) → AreTakenUp config shard items None before after
    → AreTakenUp config shard (items ++ session s ∷ []) None before after
session-passed config shard items before after s are = record {
  states = are.states ∙ sym (from-same config shard (saved_of config (items ++ session s ∷ []))
      (saved_of config items) 0 before
      (λ r. behind-session (is_named config r) false items s
      ∙ ap (λ (b : Bool). saved_of config items r ++ (if b then s ∷ [] else [])) (are.whose r)
      ∙ append-nothing (saved_of config items r)));
  whose = λ r. here-session (is_named config r) false items s ∙ are.whose r;
}

-- one item more
pub one-more : (config : ConfigView) (shard : ℕ) (items : List SavedItem) (item : SavedItem) (own next : Option ℕ)
    (before mid after : List RealmState) → AreTakenUp config shard items own before mid
    → TakesUp config shard item own next mid after → AreTakenUp config shard (items ++ item ∷ []) next before after
one-more config shard items (realm name o) own next before mid after are step =
    subst (λ (l : List RealmState). AreTakenUp config shard (items ++ realm name o ∷ []) next before l) (sym step.1)
    (realm-follows config shard items own next before mid name o are step.0)
one-more config shard items (session s) None next before mid after are step =
    subst (λ (n : Option ℕ). AreTakenUp config shard (items ++ session s ∷ []) n before after) (sym step.0)
    (subst (λ (l : List RealmState). AreTakenUp config shard (items ++ session s ∷ []) None before l) (sym step.1)
    (session-passed config shard items before mid s are))
one-more config shard items (session s) (Some k) next before mid after are step =
    subst (λ (n : Option ℕ). AreTakenUp config shard (items ++ session s ∷ []) n before after) (sym step.0)
    (session-follows config shard items k before mid after s are step.1)

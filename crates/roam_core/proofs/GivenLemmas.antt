-- The events that a broker was given, with one event more: it was answered, or it was lost.
use Rattle.std.proofs.Common.{◌≡◌, ℕ, ◌+◌, ◌<◌, Bool, true, false, not, List, [], ◌∷◌, ◌++◌, Option, Some, length, take, get_or, refl, sym, ap, subst, ◌∙◌, ◌≤◌, arith}
use Rattle.std.specs.Prelude.{IsSomeAnd, slice_get}
use Rattle.std.proofs.lemmas.List.{take_all, take_more, length-take}
use Rattle.std.proofs.lemmas.Option.{slice_get-get_or}
use Rattle.roam_conf.specs.Config.{ConfigView}
use Rattle.roam_pending.proofs.TestLemmas.{all-append}
use Rattle.roam_core.specs.Events.{PlainEvent, is_lost}
use Rattle.roam_core.specs.Runs.{ArePlaces, EachWantsMemory, WereGiven}
use Rattle.roam_core.specs.Steps.{EventWantsMemory}
use Rattle.roam_core.proofs.KeptLemmas.{absent, other_place, present}

-- one place more, of an event that wants memory
pub wanted-more :
    (config : ConfigView) (events : List PlainEvent) (n : ℕ) (lost : List ℕ) (e d : PlainEvent)
    → n < length events → get_or events n d ≡ e → EachWantsMemory config events lost
    → EventWantsMemory config e → EachWantsMemory config events (lost ++ n ∷ [])
wanted-more config events n lost e d within at each wants =
    let there : slice_get events n ≡ Some e = slice_get-get_or events n d within ∙ ap Some at in
    let here = subst (λ (o : Option PlainEvent). IsSomeAnd o (EventWantsMemory config)) (sym there) wants in
    all-append _ lost (n ∷ []) each (here, tt)

module _ {X : Type 0} (steps : X → PlainEvent → Bool → X → Type 0) where
  -- one event more, at its place
  given-more :
      (place n : ℕ) (lost : List ℕ) (first here next : X) (es : List PlainEvent) (e : PlainEvent)
      → n ≡ place + length es → WereGiven steps place lost first es here
      → steps here e (not (is_lost n lost)) next → WereGiven steps place lost first (es ++ e ∷ []) next
  given-more place n lost first here next [] e is same does =
      let at : n ≡ place = omega arith in (
        next,
        subst (λ (x : X). steps x e (not (is_lost place lost)) next) (sym same)
            (subst (λ (k : ℕ). steps here e (not (is_lost k lost)) next) at does),
        refl,
      )
  given-more place n lost first here next (x ∷ es) e is given does =
      (given.0, given.1, given-more (place + 1) n lost given.0 here next es e (omega arith) given.2 does)

  -- a later place that is lost changes nothing before it
  lost-later :
      (place n : ℕ) (lost : List ℕ) (first here : X) (es : List PlainEvent) → place + length es ≤ n
      → WereGiven steps place lost first es here → WereGiven steps place (lost ++ n ∷ []) first es here
  lost-later place n lost first here [] below same = same
  lost-later place n lost first here (x ∷ es) below given =
      let same : is_lost place (lost ++ n ∷ []) ≡ is_lost place lost = other_place place n lost (omega arith) in (
        given.0,
        subst (λ (b : Bool). steps first x (not b) given.0) (sym same) given.1,
        lost-later (place + 1) n lost given.0 here es (omega arith) given.2,
      )

  -- so a run goes on
  pub given-answered :
      (events : List PlainEvent) (n : ℕ) (lost : List ℕ) (first here next : X) (e d : PlainEvent)
      → n < length events → get_or events n d ≡ e → ArePlaces n lost
      → WereGiven steps 0 lost first (take n events) here → steps here e true next
      → WereGiven steps 0 lost first (take (n + 1) events) next
  given-answered events n lost first here next e d within at places given does =
      let front : take (n + 1) events ≡ take n events ++ e ∷ [] = take_more events n d within ∙ rw at refl in
      let kept : not (is_lost n lost) ≡ true = ap not (absent n lost places.there) in
      rw front (given-more 0 n lost first here next (take n events) e (omega (arith, length-take n events)) given
      (subst (λ (b : Bool). steps here e b next) (sym kept) does))

  pub given-lost :
      (events : List PlainEvent) (n : ℕ) (lost : List ℕ) (first here next : X) (e d : PlainEvent)
      → n < length events → get_or events n d ≡ e
      → WereGiven steps 0 lost first (take n events) here → steps here e false next
      → WereGiven steps 0 (lost ++ n ∷ []) first (take (n + 1) events) next
  given-lost events n lost first here next e d within at given does =
      let front : take (n + 1) events ≡ take n events ++ e ∷ [] = take_more events n d within ∙ rw at refl in
      let gone : not (is_lost n (lost ++ n ∷ [])) ≡ false = ap not (present n lost) in
      let still = lost-later 0 n lost first here (take n events) (omega (arith, length-take n events)) given in
      rw front (given-more 0 n (lost ++ n ∷ []) first here next (take n events) e
      (omega (arith, length-take n events)) still
      (subst (λ (b : Bool). steps here e b next) (sym gone) does))

  pub given-all :
      (events : List PlainEvent) (n : ℕ) (lost : List ℕ) (first here : X) → n ≡ length events
      → WereGiven steps 0 lost first (take n events) here → WereGiven steps 0 lost first events here
  given-all events n lost first here is given =
      subst (λ (l : List PlainEvent). WereGiven steps 0 lost first l here) (take_all n events (omega (arith, is))) given

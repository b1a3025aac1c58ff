-- Between two uses of an Identifier there are 1,000 ms, or it came back.
use Rattle.std.proofs.Common.{◌≡◌, ℕ, ◌<◌, ◌≤◌, List, [], ◌∷◌, length, refl, sym, ◌∙◌, ap, subst, arith}
use Rattle.std.proofs.lemmas.List.{get_or-set_same, get_or-set_other, length-set, length-replicate}
use Rattle.roam_streams.specs.declared.identifier_waits.IdentifierWaits.{IdentifierWaits}
use Rattle.roam_streams.specs.declared.identifier_waits.Way.{Way}
use Rattle.roam_streams.specs.declared.identifier_waits.Way.TheVariants.{Auth, Acct}
use Rattle.roam_streams.specs.Waits.{AreSpaced, IsNotUsedBefore, WaitEvent, WaitRun, back, free_at, held_until, none_waits, used, with_free_at}

-- there is a moment for each Identifier
record HasAll (waits : IdentifierWaits) : Type 0 where
  auth : length waits.auth ≡ 256
  acct : length waits.acct ≡ 256

none_has_all : HasAll none_waits
none_has_all = record { auth = length-replicate {A = ℕ} 256 0; acct = length-replicate {A = ℕ} 256 0 }

still_has_all : (waits : IdentifierWaits) (way : Way) (id moment : ℕ)
    → HasAll waits → HasAll (with_free_at waits way id moment)
still_has_all waits Auth id moment h = record { auth = length-set waits.auth id moment ∙ h.auth; acct = h.acct }
still_has_all waits Acct id moment h = record { auth = h.auth; acct = length-set waits.acct id moment ∙ h.acct }

free_at-same : (waits : IdentifierWaits) (way : Way) (id moment : ℕ) → HasAll waits → id < 256
    → free_at (with_free_at waits way id moment) way id ≡ moment
free_at-same waits Auth id moment h i = get_or-set_same waits.auth id moment 0 (omega (arith, h.auth, i))
free_at-same waits Acct id moment h i = get_or-set_same waits.acct id moment 0 (omega (arith, h.acct, i))

free_at-other : (waits : IdentifierWaits) (way to : Way) (other id moment : ℕ)
    → ¬ ((way ≡ to) × (other ≡ id)) → free_at (with_free_at waits way other moment) to id ≡ free_at waits to id
free_at-other waits Auth Auth other id moment h = get_or-set_other waits.auth other id moment 0 (λ e. h (refl, sym e))
free_at-other waits Acct Acct other id moment h = get_or-set_other waits.acct other id moment 0 (λ e. h (refl, sym e))
free_at-other waits Auth Acct other id moment h = refl
free_at-other waits Acct Auth other id moment h = refl

free_at-along : (waits : IdentifierWaits) (way to : Way) (other id : ℕ) → (way ≡ to) × (other ≡ id)
    → free_at waits way other ≡ free_at waits to id
free_at-along waits way to other id e =
    ap (λ w. free_at waits w other) e.0 ∙ ap (λ i. free_at waits to i) e.1

-- what waits until a moment isn't used before
not_used_before :
    (events : List WaitEvent) (old new : IdentifierWaits) (to : Way) (id until : ℕ)
    → WaitRun old events new → until ≤ free_at old to id → IsNotUsedBefore to id until events
not_used_before [] old new to id until r h = tt
not_used_before (used way other now ∷ events) old new to id until (middle, step, run) h = (
  (λ same. let along = free_at-along old way to other id same in omega (arith, h, along, step.1)),
  λ differs.
      let kept : free_at middle to id ≡ free_at old to id =
      ap (λ w. free_at w to id) step.2 ∙ free_at-other old way to other id (held_until now) differs in
      not_used_before events middle new to id until run (omega (arith, h, kept)),
)
not_used_before (back way other ∷ events) old new to id until (middle, step, run) h =
    λ differs.
    let kept : free_at middle to id ≡ free_at old to id =
    ap (λ w. free_at w to id) step.1 ∙ free_at-other old way to other id 0 differs in
    not_used_before events middle new to id until run (omega (arith, h, kept))

spaced : (events : List WaitEvent) (old new : IdentifierWaits) → HasAll old → WaitRun old events new → AreSpaced events
spaced [] old new h r = tt
spaced (used way id now ∷ events) old new h (middle, step, run) =
    let all : HasAll middle = subst HasAll (sym step.2) (still_has_all old way id (held_until now) h) in
    let until : free_at middle way id ≡ held_until now =
    ap (λ w. free_at w way id) step.2 ∙ free_at-same old way id (held_until now) h step.0 in (
      not_used_before events middle new way id (held_until now) run (omega (arith, until)),
      spaced events middle new all run,
    )
spaced (back way id ∷ events) old new h (middle, step, run) =
    spaced events middle new (subst HasAll (sym step.1) (still_has_all old way id 0 h)) run

pub spaced_from_none :
    (events : List WaitEvent) (new : IdentifierWaits) → WaitRun none_waits events new → AreSpaced events
spaced_from_none events new r = spaced events none_waits new none_has_all r

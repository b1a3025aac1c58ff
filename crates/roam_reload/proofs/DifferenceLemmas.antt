-- What a test of equality that fails or holds says of what it compares.
use Rattle.std.proofs.Common.{◌≡◌, ◌≢◌, ◌↔◌, ◌∙◌, Bool, true, false, not, inl, inr, Decides, refl, sym, ap}
use Rattle.std.proofs.lemmas.Bool.{cases_Bool, true≢false}
use Rattle.std.specs.Prelude.{IsTrue}

-- the test fails: they differ
pub differs : {A : Type 0} (x y : A) (same test : Bool) → Decides same (x ≡ y) → test ≡ not same → test ≡ true →
    y ≡ x → ⊥
differs x y same test decides is yes' e = true≢false (sym (sym is ∙ yes') ∙ ap not (decides.1 (sym e)))

unnot : (t : Bool) → not t ≡ false → t ≡ true
unnot true e = refl
unnot false e = absurd (true≢false e)

-- the test holds: they are equal
pub agrees : {A : Type 0} (x y : A) (same test : Bool) → Decides same (x ≡ y) → test ≡ not same → test ≡ false → y ≡ x
agrees x y same test decides is no' = sym (decides.0 (unnot same (sym is ∙ no')))

-- the test tells whether they differ
pub tells : {A : Type 0} (x y : A) (same test : Bool) → Decides same (x ≡ y) → test ≡ not same →
    IsTrue test ↔ (y ≢ x)
tells x y same test decides is = (
  λ yes'. differs x y same test decides is yes',
  λ apart.
      elim (cases_Bool test) [
        | inl yes' ↦ yes'
        | inr no' ↦ absurd (apart (agrees x y same test decides is no'))
      ],
)

-- The parts of a `&Refusing` over an allocator `Z`, as both methods take it apart. Assumes `Logic`.
use Rattle.std.proofs.Common.{ℕ, ◌+◌, [], ◌∷◌, Bor}
use seplogic.Ra.Ura.{Ura}
use base.Logic.{ent, sep, id⊢}
use base.Fml.{Lft}
use contract.Lifetimes.{Lfts}
use prog.Memory.{size, align, up}
use types.Logic.{Logic, sem}
use types.Kit.{‵, ◌$◌, ◌∵◌, !, qed, done, move, keep, use1, fsplit}
use denote.RattleType.{RattleType}
use denote.Ref.{shr_vals}
use denote.Opens.{unhide}
use denote.Param.{param}
use denote.Builtin.{RefOf}
use denote.Memory.{hidden_shr}
use denote.Signature.{Slot, plain, type_at}
use Rattle.std.proofs.alloc.Calls.{Al, α, seen}
use Rattle.std.specs.contracts.cell.Cell as CE
use Rattle.test_support.specs.contracts.plan.Plan as PL
use Rattle.test_support.specs.contracts.refusing.Refusing as RE

abbrev pub PlanCell : RattleType
PlanCell = CE.the_row PL.the_row

module _ (Z : Al) where
  -- the parameter `&self`
  abbrev pub self : Slot 2
  self = RefOf (0 ∷ []) tt (plain (λ _. RE.the_row (param 0 Z.row))) (λ _. tt)

  -- where the allocator below lies, and where the plan
  abbrev pub inner_at : ℕ × ℕ → ℕ × ℕ
  inner_at p = (p.0, p.1 + up (align (α Z)) 0)

  abbrev pub plan_at : ℕ × ℕ → ℕ × ℕ
  plan_at p = (p.0, p.1 + up 8 (up (align (α Z)) 0 + size (α Z)))

module _ (Z : Al) {M : Type 1} {𝓤 : Ura M} (𝓛 : Logic 𝓤) (κs : Lfts 2) (r : Bor (RE.the_row Z.row).Denot) where
  abbrev κ : Lft
  κ = κs.0

  abbrev p : ℕ × ℕ
  p = inner_at Z r.ref_ptr

  abbrev c : ℕ × ℕ
  c = plan_at Z r.ref_ptr

  -- a `&` to the struct shares its two fields
  pub opened : ent 𝓤 (sem 𝓛 ((type_at (self Z) κs).own_val r (shr_vals r)))
      (sep 𝓤 (sem 𝓛 (hidden_shr PlanCell κ (record { value = tt }) c.0 c.1)) (sem 𝓛 (seen Z κ p r.now.inner)))
  opened =
      qed 𝓛 (‵ ((type_at (self Z) κs).own_val r (shr_vals r)) ∷ []) ∵
      fsplit ! $ move ! (1 ∷ []) $ unhide ! $ fsplit ! $ fsplit ! $
      use1 𝓛 (‵ (seen Z κ p r.now.inner)) (id⊢ 𝓤 _) $
      move ! (1 ∷ []) $ fsplit ! $ keep ! (0 ∷ 2 ∷ []) $ done !

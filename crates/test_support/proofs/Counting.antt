-- `counts_refused` at a call: what it is handed, and what a caller has of it. Assumes `Logic`.
use Rattle.std.proofs.Common.{◌≡◌, ℕ, List, [], ◌∷◌, refl, ap}
use seplogic.Ra.Ura.{Ura}
use mathlib.Core.Bool.{Bool}
use mir.Val.{Val, vbool, vptr}
use base.Logic.{SProp, ent, sep, ex, guard, id⊢}
use base.Fml.{Fml, Lft, Share, ftrue, fsep, flft}
use prog.Memory.{Memory}
use prog.Routine.{Routine}
use types.Logic.{Logic, sem}
use contract.Monad.{Fun}
use types.Kit.{‵, raw, ◌⊛◌, some, later, ◌$◌, ◌∵◌, !, qed, move, keep, use1, split, join, pick, fjoin, feq_i, feq_l, show, check, await, updating, now as at_once, done}
use denote.Memory.{hidden_shr}
use denote.Builtin.{bool}
use denote.Steps.{nothing, only}
use denote.Triple.Statement.{Contract}
use denote.Triple.Spec.{triple_of}
use Rattle.test_support.proofs.Parts.{PlanCell}
use Rattle.test_support.specs.contracts.refusing.counts_refused as CR

module _ {M : Type 1} {𝓤 : Ura M} (𝓛 : Logic 𝓤) (at_mem : Memory → SProp 𝓤) (run : Routine → Fun 𝓤) where
  abbrev pub Counts : Contract 𝓤
  Counts = triple_of 𝓛 CR.signature (CR.spec 𝓛 at_mem run)

  -- with a `&` to the plan at the address `c`
  abbrev pub at_counts : Lft → Share → ℕ × ℕ → Counts.Ghost
  at_counts κ q c = (
    (
      (κ, tt),
      (q, tt),
      tt,
      (record { ref_ptr = c; now = record { value = tt } }, tt),
      (vptr c.0 c.1 ∷ [], tt),
    ),
    tt,
  )

module _ {M : Type 1} {𝓤 : Ura M} (𝓛 : Logic 𝓤) (at_mem : Memory → SProp 𝓤) (run : Routine → Fun 𝓤)
    (κ : Lft) (q : Share) (c : ℕ × ℕ) where
  open 𝓛 use {H, A}

  abbrev Plan : Fml
  Plan = hidden_shr PlanCell κ (record { value = tt }) c.0 c.1

  abbrev Call : Contract 𝓤
  Call = Counts 𝓛 at_mem run

  abbrev y : Call.Ghost
  y = at_counts 𝓛 at_mem run κ q c

  -- it is handed the shared plan and a token of its lifetime
  pub Counts-goes : ent 𝓤 (sep 𝓤 (sem 𝓛 Plan) (A.lft κ q)) (Call.pre y)
  Counts-goes =
      let address : List Val = vptr c.0 c.1 ∷ [] in
      qed 𝓛 (‵ Plan ∷ ‵ (flft κ q) ∷ []) ∵ feq_i ! (List Val) address address refl $ fjoin ! $
      nothing ! $ move ! (1 ∷ []) $ fjoin ! $ nothing ! $ move ! (2 ∷ []) $ join ! $ join ! $
      nothing ! $ move ! (1 ∷ []) $ done !

  -- the token comes back, and the result is a `bool`
  pub Counts-gives : (v : Val)
      → ent 𝓤 (Call.post y v) (H.⇛ (ex 𝓤 (λ (r : Bool). guard 𝓤 (v ≡ vbool r) (A.lft κ q))))
  Counts-gives v =
      qed 𝓛 (raw (Call.post y v) ∷ []) ∵ updating ! $
      use1 𝓛 (later (some (λ (r : Bool). ((‵ (flft κ q) ⊛ ‵ ftrue) ⊛ ‵ (bool.own_val r (v ∷ [])))
      ⊛ some (λ (ws : Unit {0} × Unit {0}). ‵ (fsep ftrue ftrue) ⊛ ‵ ftrue)))) (id⊢ 𝓤 _) $
      await ! tt $ pick ! (λ r. split ! $ split ! $ move ! (1 ∷ []) $ feq_l ! (λ is_r.
      split ! $ at_once ! $ show ! (λ (t : Bool). guard 𝓤 (v ≡ vbool t) (A.lft κ q)) r $
      check ! (ap only is_r) $ keep ! (0 ∷ []) $ done !))

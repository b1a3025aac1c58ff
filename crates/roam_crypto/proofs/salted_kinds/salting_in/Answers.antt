use Rattle.std.proofs.Common.{◌≡◌, ◌+◌, ◌==◌, ℕ, suc, Bool, true, false, Option, None, arith, ap, ap₂, sym, ◌∙◌}
use Rattle.std.specs.Prelude.{◌&&◌, slice_index_or}
use Rattle.std.specs.Option.{option_eq, option_map}
use Rattle.std.proofs.lemmas.Bool.{eq-eqb, ne_eqb}
use Rattle.roam_crypto.specs.declared.salted_kinds.Salting.{Salting}
use Rattle.roam_crypto.specs.declared.salted_kinds.Salting.TheVariants.{Salt}
use Rattle.roam_crypto.specs.SaltedKinds.{is_of}
use Rattle.roam_crypto.proofs.FirstLemmas.{found_first, none_yet}
use Rattle.roam_crypto.proofs.salted_kinds.salting_in.Goals.{else-eq-via-then-eq+else-named-kind, else-eq-via-else-eq}
use Rattle.roam_crypto.proofs.salted_kinds.salting_in.Goals as goal

abbrev Entry : Type 0
Entry = Option ℕ × ℕ × Salting

-- a place where there is no entry
abbrev nowhere : Entry
nowhere = (None, 0, Salt)

-- this entry is the first of the kind
pub returns-then-named-kind : goal.returns-then-named-kind
returns-then-named-kind c =
    let entry : Entry = slice_index_or c.args.list.now c.loop-owner.owner-index nowhere in
    let vendor : option_eq (λ a b. a == b) entry.0 c.args.vendor ≡ true = sym c.eq.ensures ∙ c.if-eq.true in
    let kind : (entry.1 == c.args.kind) ≡ true = eq-eqb entry.1 c.args.kind c.if-named-kind.true in
    let is : is_of c.args.vendor c.args.kind entry ≡ true = ap₂ (λ (a b : Bool). a && b) vendor kind in
    sym (ap (option_map (λ (e : Entry). e.2))
    (found_first (is_of c.args.vendor c.args.kind) c.args.list.now c.loop-owner.owner-index nowhere
    c.loop-owner.invariant c.loop-owner-test.true is))

-- this one isn't of it
pub loop-owner-preserved : goal.loop-owner-preserved
loop-owner-preserved c =
    let entry : Entry = slice_index_or c.args.list.now c.loop-owner.owner-index nowhere in
    let next : c.loop-owner.owner-index + 1 ≡ suc c.loop-owner.owner-index = omega arith in
    let other : is_of c.args.vendor c.args.kind entry ≡ false =
    elim c.else-eq.branch [
      | else-eq-via-then-eq+else-named-kind w ↦
          ap₂ (λ (a b : Bool). a && b) (sym c.eq.ensures ∙ w.if-eq.true)
          (ne_eqb entry.1 c.args.kind w.if-named-kind.false)
      | else-eq-via-else-eq w ↦
          ap (λ (a : Bool). a && (entry.1 == c.args.kind)) (sym c.eq.ensures ∙ w.if-eq.false)
    ] in
    none_yet (is_of c.args.vendor c.args.kind) c.args.list.now c.loop-owner.owner-index
    (c.loop-owner.owner-index + 1) nowhere next c.loop-owner.invariant c.loop-owner-test.true other

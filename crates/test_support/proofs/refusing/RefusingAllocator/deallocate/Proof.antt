-- It gives the block back to the allocator below. Assumes `Logic`.
use Rattle.std.proofs.Common.{◌≡◌, List, [], ◌∷◌, refl, w64}
use Rattle.std.proofs.raw_atomic.Walks.{proved}
use Rattle.std.proofs.alloc.Calls.{Al, token, Gives, at_gives, Gives-goes, Gives-Gives, seen}
use mir.Syntax.{Args, Fn, a_type, dnil, dcons}
use mir.Val.{Val, vunit, vint, vptr}
use mir.MapTy.{inst_fn}
use base.Logic.{fst∗, never}
use base.Fml.{ftrue, fsep, flft}
use prog.Memory.{size, align, capped}
use prog.Wp.{WpFn}
use contract.BorrowLft.{◌⊑◌, ⊑_trans}
use contract.Monad.{fact}
use contract.Running.{tables}
use types.Logic.{sem}
use types.Kit.{‵, raw, ◌⊛◌, later, given, prop, ◌$◌, ◌∵◌, !, qed, done, move, keep, use1, split, split3, join, fsplit, fjoin, feq_i, learn, await, regoal, suffices}
use types.Run.{stop, fld, addr, of_opd, unit_lit, no_more, and_then, returns, enter}
use types.ByLocal.{alloc_all, pass_all, free_all, look_at, get, through, sets, lands_as}
use denote.Exit.{yes}
use denote.RattleType.{owns}
use denote.RawPtr.{Ptr, block_ptr, null_ptr, ptr_val, room_for, in_a_block, rawptr_vals, rawptr_Tells}
use denote.Ref.{shr_vals}
use denote.Memory.{hidden_shr}
use denote.Param.{bounded}
use denote.Plain.{uint_vals, uint_Tells}
use denote.Builtin.{usize, RawPtr}
use denote.Signature.{Slot, plain, types_at}
use denote.Steps.{heard, nothing}
use denote.Triple.Call.{calls_at}
use denote.Triple.Clauses.{Ended}
use denote.Triple.Table.{framed}
use denote.Triple.Walked.{Stays, stay_dropped, walk_of, ends_at, Goes-dropped}
use Rattle.test_support.proofs.Parts.{PlanCell, self, inner_at, plan_at, opened}
use Rattle.test_support.specs.contracts.refusing.RefusingAllocator.deallocate as F
use Rattle.test_support.specs.contracts.refusing.RefusingAllocator.deallocate.Key as key
use Rattle.test_support.proofs.refusing.RefusingAllocator.deallocate.Statement as stated
use Rattle.test_support.proofs.refusing.RefusingAllocator.deallocate.Code as code

abbrev pointer : Slot 2
pointer = plain (λ _. RawPtr)

abbrev word : Slot 2
word = plain (λ _. usize)

module _ (Z : Al) where
  abbrev args : Args
  args = bounded (a_type ∷ []) (Z.row, tt) (dcons Z.d (dcons Z.drops dnil))

  abbrev here : Fn
  here = inst_fn args code.function

  abbrev ended : Ended
  ended = F.ended Z.row Z.g Z.d Z.drops

  -- nothing is left of the parameters
  abbrev stayed : Stays ended.signature.params ended.kept
  stayed = (
    stay_dropped (self Z) yes,
    (
      stay_dropped pointer yes,
      (stay_dropped word yes, (stay_dropped word yes, tt)),
    ),
  )

pub deallocate_spec : {M : Type 1} → stated.statement M
deallocate_spec 𝓤 𝓛 𝓜 𝓡 wired Y L g d d' met _ =
    let Z : Al = record { row = Y; laws = L; g = g; d = d; drops = d' } in
    let mem = 𝓜.mem in let run = 𝓡.returns in let 𝓣 = tables 𝓤 𝓛.H 𝓜 𝓡 𝓡.env in
    let T = ended Z in let hs = stayed Z in
    let clauses = F.clauses Y g d d' 𝓛 mem run in let W = walk_of 𝓛 T hs clauses in
    let self_goes = Goes-dropped 𝓛 2 (self Z) yes (λ κs x f. refl) in
    let pointer_goes = Goes-dropped 𝓛 2 pointer yes (λ κs x f. refl) in
    let word_goes = Goes-dropped 𝓛 2 word yes (λ κs x f. refl) in
    proved 𝓛 T hs clauses 𝓜 𝓡 (self_goes, (pointer_goes, (word_goes, (word_goes, tt))))
    (key.name (args Z)) (here Z) (code.unfolded 𝓤 𝓛.H 𝓜 𝓡 wired (Y, tt) d d')
    (λ κs. (shr_vals, (rawptr_vals, (uint_vals w64, (uint_vals w64, tt)))))
    (λ κs. ((λ r vs s. s.0), (rawptr_Tells, (uint_Tells w64, (uint_Tells w64, tt)))))
    (λ κs qs bounds a τ are.
    let κ = κs.0 in let q = qs.0 in let κ' = κs.1.0 in let q' = qs.1.0 in
    let r = a.0 in let n = a.1.1.0 in let al = a.1.1.1.0 in
    let fits_n = are.1.1.0.1 in let fits_al = are.1.1.1.0.1 in
    let h = r.now.inner in let p = inner_at Z r.ref_ptr in let c = plan_at Z r.ref_ptr in
    let y : Ptr → W.Ghost = λ x. (
      (
        κs,
        qs,
        bounds,
        (r, (x, (n, (al, tt)))),
        (shr_vals r, (rawptr_vals x, (uint_vals w64 n, (uint_vals w64 al, tt)))),
      ),
      τ,
    ) in
    let arguments : Ptr → List Val = λ x.
    vptr r.ref_ptr.0 r.ref_ptr.1 ∷ ptr_val x ∷ vint w64 n ∷ vint w64 al ∷ [] in
    let Said : Type 0 = (capped (size τ) ≡ n) × (capped (align τ) ≡ al) in
    let Block = λ (x : Ptr). fsep (room_for τ x) (token Z h τ x) in
    qed 𝓛 (((‵ (flft κ q) ⊛ ‵ (flft κ' q') ⊛ ‵ ftrue)
    ⊛ ‵ (owns (types_at T.signature.params κs) a (y a.1.0).0.4))
    ∷ (raw (fact 𝓤 (κ' ⊑ Y.lives)) ⊛ raw (fact 𝓤 Said) ⊛ ‵ (Block a.1.0)) ∷ []) ∵
    move ! (1 ∷ []) $ split3 ! $ heard ! _ (λ lives. heard ! _ (λ said.
    -- nothing lies at null
    in_a_block ! a.1.0 Block (fst∗ 𝓤 (never 𝓤) (sem 𝓛 (token Z h τ null_ptr))) (λ b o at.
    regoal ! (λ x. prop (WpFn 𝓤 𝓛.H 𝓣.C 𝓣.Λ (here Z) (arguments x) (W.post (y x)))) at refl $
    move ! (1 ∷ []) $ split ! $ split ! $ move ! (2 ∷ []) $ fsplit ! $
    use1 𝓛 (‵ (hidden_shr PlanCell κ (record { value = tt }) c.0 c.1) ⊛ ‵ (seen Z κ p h))
    (opened Z 𝓛 κs r) $ split ! $
    keep ! (5 ∷ 1 ∷ 3 ∷ 4 ∷ []) $ fsplit ! $
    -- [the block's room; its token; the allocator below; the token of κ; the token of κ']
    enter ! _ _ _ _ _ $ alloc_all ! (λ l. pass_all ! refl (
      (tt, tt),
      ((tt, tt), ((tt, record { fits = fits_n }), ((tt, record { fits = fits_al }), tt))),
    ) $
    sets ! (addr ! (through ! refl (fld ! refl (stop !)))) refl (tt, tt) $
    let z = at_gives Z 𝓛 mem run κ q p h b o n al τ in
    move ! (2 ∷ 3 ∷ []) $ join ! $ move ! (2 ∷ 0 ∷ []) $ join ! $ move ! (1 ∷ 0 ∷ []) $ join ! $
    use1 𝓛 (raw ((Gives Z 𝓛 mem run).pre z))
    (Gives-goes Z 𝓛 mem run κ q p h (⊑_trans κ κ' Y.lives bounds.0 lives) b o n al τ
    said.0 said.1 fits_n fits_al) $
    calls_at ! (framed 𝓤 𝓛.H 𝓜 𝓣) (Gives Z 𝓛 mem run) (met.deallocate d') z
    (and_then ! (get ! refl) (and_then ! (get ! refl)
    (and_then ! (get ! refl) (and_then ! (get ! refl) (no_more !))))) (λ v.
    use1 𝓛 (later (given (v ≡ vunit) (‵ (flft κ q))))
    (Gives-Gives Z 𝓛 mem run κ q p h b o n al τ v) $ await ! tt $ learn ! (λ is_unit.
    lands_as ! is_unit refl (tt, tt) $ sets ! (of_opd ! (unit_lit !)) refl (tt, tt) $
    returns ! (look_at ! 0 refl) $ free_all ! refl $
    suffices ! _ (ends_at 𝓛 T hs clauses (y (block_ptr b o)) vunit tt
    (tt, (tt, (tt, (tt, tt)))) (tt, (tt, (tt, (tt, tt))))) $
    nothing ! $ feq_i ! (List Val) (vunit ∷ []) (vunit ∷ []) refl $
    nothing ! $ nothing ! $ fjoin ! $ nothing ! $ fjoin ! $ nothing ! $ fjoin ! $ nothing ! $ fjoin !
    $ join ! $ move ! (2 ∷ 3 ∷ []) $ join ! $ join ! $ done !)))))))

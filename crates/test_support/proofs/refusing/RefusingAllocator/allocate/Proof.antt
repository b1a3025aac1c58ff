-- It refuses the growth that the plan names, and answers to any other what the allocator below
-- answers. Assumes `Logic`.
use Rattle.std.proofs.Common.{◌≡◌, ℕ, true, false, List, [], ◌∷◌, Ok, Err, refl, w64}
use Rattle.std.proofs.raw_atomic.Walks.{proved}
use Rattle.std.proofs.alloc.Shapes.{after}
use Rattle.std.proofs.alloc.Calls.{Al, token, Answer, answer_val, Answer-typed, Answer-Ok, Answer-err, Takes, at_takes, Answered, Takes-goes, Takes-gives, answers, seen}
use mathlib.Core.Bool.{Bool}
use mir.Syntax.{Args, Fn, a_type, dnil, dcons}
use mir.Val.{vbool}
use mir.MapTy.{inst_fn}
use base.Fml.{ftrue, flft, froom}
use prog.Memory.{size, align, capped}
use contract.BorrowLft.{◌⊑◌, ⊑_trans}
use contract.Monad.{fact}
use contract.Running.{tables}
use types.Kit.{Item, ‵, raw, ◌⊛◌, some, later, given, prop, at_ret, Sq, ◌$◌, ◌∵◌, !, qed, done, move, drop, keep, use0, use1, use2, split, join, fsplit, fjoin, learn, pick, await, suffices}
use types.Part.{agg}
use types.Run.{stop, fld, addr, lit, no_more, and_then, first, branches, skips, exec, returns, returns_within, enter}
use types.ByLocal.{alloc_all, pass_all, free_all, look_at, get, through, sets, lands_as, env}
use denote.Exit.{yes}
use denote.RattleType.{owns}
use denote.RawPtr.{block_ptr}
use denote.Ref.{shr_vals}
use denote.Memory.{hidden_shr}
use denote.Param.{bounded}
use denote.Plain.{uint_vals, uint_Tells}
use denote.Builtin.{usize}
use denote.Signature.{Slot, plain, types_at}
use denote.Steps.{heard, nothing}
use denote.Triple.Call.{calls_at}
use denote.Triple.Clauses.{Ended}
use denote.Triple.Table.{framed}
use denote.Triple.Walked.{Stays, stay_dropped, walk_of, ends_at, Goes-dropped}
use Rattle.test_support.proofs.Counting.{Counts, at_counts, Counts-goes, Counts-gives}
use Rattle.test_support.proofs.Parts.{PlanCell, self, inner_at, plan_at, opened}
use Rattle.test_support.proofs.refusing.counts_refused.Met as counts
use Rattle.test_support.specs.contracts.refusing.RefusingAllocator.allocate as F
use Rattle.test_support.specs.contracts.refusing.RefusingAllocator.allocate.Key as key
use Rattle.test_support.proofs.refusing.RefusingAllocator.allocate.Statement as stated
use Rattle.test_support.proofs.refusing.RefusingAllocator.allocate.Code as code

abbrev word : Slot 2
word = plain (λ _. usize)

module _ (Z : Al) where
  abbrev args : Args
  args = bounded (a_type ∷ []) (Z.row, tt) (dcons Z.d (dcons Z.drops dnil))

  abbrev here : Fn
  here = inst_fn args code.function

  abbrev ended : Ended
  ended = F.ended Z.row Z.g Z.d Z.drops

  -- nothing is left of the parameters
  abbrev stayed : Stays ended.signature.params ended.kept
  stayed = (stay_dropped (self Z) yes, (stay_dropped word yes, (stay_dropped word yes, tt)))

pub allocate_spec : {M : Type 1} → stated.statement M
allocate_spec 𝓤 𝓛 𝓜 𝓡 wired Y L g d d' met _ =
    let Z : Al = record { row = Y; laws = L; g = g; d = d; drops = d' } in
    let mem = 𝓜.mem in let run = 𝓡.returns in let 𝓣 = tables 𝓤 𝓛.H 𝓜 𝓡 𝓡.env in
    let T = ended Z in let hs = stayed Z in
    let clauses = F.clauses Y g d d' 𝓛 mem run in let W = walk_of 𝓛 T hs clauses in
    let self_goes = Goes-dropped 𝓛 2 (self Z) yes (λ κs x f. refl) in
    let word_goes = Goes-dropped 𝓛 2 word yes (λ κs x f. refl) in
    proved 𝓛 T hs clauses 𝓜 𝓡 (self_goes, (word_goes, (word_goes, tt)))
    (key.name (args Z)) (here Z) (code.unfolded 𝓤 𝓛.H 𝓜 𝓡 wired (Y, tt) d d')
    (λ κs. (shr_vals, (uint_vals w64, (uint_vals w64, tt))))
    (λ κs. ((λ r vs s. s.0), (uint_Tells w64, (uint_Tells w64, tt)))) (λ κs qs bounds a τ are.
    let κ = κs.0 in let q = qs.0 in let κ' = κs.1.0 in let q' = qs.1.0 in
    let r = a.0 in let n = a.1.0 in let al = a.1.1.0 in
    let fits_n = are.1.0.1 in let fits_al = are.1.1.0.1 in
    let h = r.now.inner in let p = inner_at Z r.ref_ptr in let c = plan_at Z r.ref_ptr in
    let y : W.Ghost =
    ((κs, qs, bounds, a, (shr_vals r, (uint_vals w64 n, (uint_vals w64 al, tt)))), τ) in
    let Said : Type 0 = (capped (size τ) ≡ n) × (capped (align τ) ≡ al) in
    -- what is left at each end
    let Tokens : List (Item 𝓤) = ‵ (flft κ q) ∷ (‵ (flft κ' q') ⊛ ‵ ftrue) ∷ [] in
    -- with no block: an error owns nothing
    let ends_in_error : Sq 𝓛 Tokens (prop (W.post y (answer_val false 0 0))) =
    let v = answer_val false 0 0 in
    nothing ! $ suffices ! _ (ends_at 𝓛 T hs clauses y v (Err (record {}))
    (tt, (tt, (tt, tt))) (tt, (tt, (tt, tt)))) $
    use0 𝓛 (‵ (Answer.own_val (Err (record {})) (v ∷ []))) (Answer-err 𝓛) $
    nothing ! $ nothing ! $ fjoin ! $ nothing ! $ fjoin ! $ nothing ! $ fjoin ! $ join ! $
    move ! (2 ∷ 3 ∷ []) $ join ! $ join ! $ done ! in
    -- with the block at `b` and `o`, and the right to give it back
    let ends_in_block : (b o : ℕ) → Sq 𝓛 (‵ (froom τ b o) ∷ ‵ (token Z h τ (block_ptr b o)) ∷ Tokens)
    (prop (W.post y (answer_val true b o))) = λ b o.
    let v = answer_val true b o in
    fjoin ! $ suffices ! _ (ends_at 𝓛 T hs clauses y v (Ok (block_ptr b o))
    (tt, (tt, (tt, tt))) (tt, (tt, (tt, tt)))) $
    use0 𝓛 (‵ (Answer.own_val (Ok (block_ptr b o)) (v ∷ []))) (Answer-Ok 𝓛 b o) $
    nothing ! $ nothing ! $ fjoin ! $ nothing ! $ fjoin ! $ nothing ! $ fjoin ! $ join ! $
    move ! (2 ∷ 3 ∷ []) $ join ! $ join ! $ done ! in
    qed 𝓛 (((‵ (flft κ q) ⊛ ‵ (flft κ' q') ⊛ ‵ ftrue) ⊛ ‵ (owns (types_at T.signature.params κs) a y.0.4))
    ∷ (raw (fact 𝓤 (κ' ⊑ Y.lives)) ⊛ raw (fact 𝓤 Said)) ∷ []) ∵
    move ! (1 ∷ []) $ split ! $ heard ! _ (λ lives. heard ! _ (λ said.
    split ! $ split ! $ move ! (2 ∷ []) $ fsplit ! $
    use1 𝓛 (‵ (hidden_shr PlanCell κ (record { value = tt }) c.0 c.1) ⊛ ‵ (seen Z κ p h))
    (opened Z 𝓛 κs r) $ split ! $
    keep ! (0 ∷ 3 ∷ 1 ∷ 4 ∷ []) $
    -- [the plan; the token of κ; the allocator below; the token of κ']
    enter ! _ _ _ _ _ $ alloc_all ! (λ l.
    pass_all ! refl ((tt, tt), ((tt, record { fits = fits_n }), ((tt, record { fits = fits_al }), tt))) $
    -- the growth is counted
    sets ! (addr ! (through ! refl (fld ! refl (stop !)))) refl (tt, tt) $
    use2 𝓛 (raw ((Counts 𝓛 mem run).pre (at_counts 𝓛 mem run κ q c))) (Counts-goes 𝓛 mem run κ q c) $
    calls_at ! (framed 𝓤 𝓛.H 𝓜 𝓣) (Counts 𝓛 mem run)
    (counts.met 𝓤 𝓛 𝓜 𝓡 (code.calls-test_support::refusing::counts_refused 𝓡.env wired))
    (at_counts 𝓛 mem run κ q c) (and_then ! (get ! refl) (no_more !)) (λ u.
    use1 𝓛 (later (some (λ (t : Bool). given (u ≡ vbool t) (‵ (flft κ q)))))
    (Counts-gives 𝓛 mem run κ q c u) $ await ! tt $ pick ! (λ t. learn ! (λ is_t.
    lands_as ! is_t refl (tt, tt) $ first ! $ branches ! (get ! refl)
    -- it is the one to be refused: nothing is asked for below
    (λ refused.
    sets ! (agg ! (no_more !)) refl (tt, tt) $
    sets ! (agg ! (and_then ! (lit ! tt) (and_then ! (get ! refl) (no_more !)))) refl
    (Answer-typed false 0 0) $
    returns_within ! (W.post y) refl (look_at ! 0 refl) $ free_all ! refl $
    move ! (1 ∷ []) $ drop ! $ ends_in_error)
    -- it is another one: the allocator below is asked
    (λ other. skips ! $
    exec ! 𝓣.C 𝓣.Λ (env (here Z).locals l) (after 3 (here Z).body) (at_ret _ (W.post y)) $
    move ! (1 ∷ []) $ sets ! (addr ! (through ! refl (fld ! refl (stop !)))) refl (tt, tt) $
    let z = at_takes Z 𝓛 mem run κ q p h n al τ in
    use2 𝓛 (raw ((Takes Z 𝓛 mem run).pre z))
    (Takes-goes Z 𝓛 mem run κ q p h (⊑_trans κ κ' Y.lives bounds.0 lives) n al τ
    said.0 said.1 fits_n fits_al) $
    calls_at ! (framed 𝓤 𝓛.H 𝓜 𝓣) (Takes Z 𝓛 mem run) (met.allocate d') z
    (and_then ! (get ! refl) (and_then ! (get ! refl) (and_then ! (get ! refl) (no_more !)))) (λ v.
    use1 𝓛 (later (raw (Answered Z 𝓛 mem run h τ v) ⊛ ‵ (flft κ q)))
    (Takes-gives Z 𝓛 mem run κ q p h n al τ v) $ await ! tt $ split ! $
    answers Z ! mem run h τ v
    (λ b o is_block. lands_as ! is_block refl (Answer-typed true b o) $
    returns ! (look_at ! 0 refl) $ free_all ! refl $ ends_in_block b o)
    (λ is_error. lands_as ! is_error refl (Answer-typed false 0 0) $
    returns ! (look_at ! 0 refl) $ free_all ! refl $ ends_in_error))))))))))

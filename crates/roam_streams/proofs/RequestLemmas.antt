-- No two requests in a row under one Identifier have one Authenticator.
use Rattle.std.proofs.Common.{◌≡◌, ℕ, List, [], ◌∷◌, length, sym, ◌∙◌, ap, arith}
use Rattle.std.proofs.lemmas.List.{get_or-set_same, get_or-set_other, length-set, length-replicate}
use Rattle.std.specs.Prelude.{slice_index, Option, Some, None}
use Rattle.roam_streams.specs.Requests.{HasOtherNext, NoneRepeated, RequestRun, authenticator_of, last_at, none_put}

-- the next request with the Identifier of the last one has another Authenticator
other_next :
    (packets : List (List ℕ)) (old new : List (Option (List ℕ))) (id : ℕ) (authenticator : List ℕ)
    → last_at old id ≡ Some authenticator → RequestRun old packets new → HasOtherNext id authenticator packets
other_next [] old new id authenticator h r = tt
other_next (packet ∷ packets) old new id authenticator h (middle, step, run) = (
  (λ same equal. step.other (ap (λ i. last_at old i) same ∙ h ∙ ap Some (sym equal))),
  λ differs.
      let kept : last_at middle id ≡ last_at old id =
      ap (λ l. last_at l id) step.after
      ∙ get_or-set_other old (slice_index packet 1) id (Some (authenticator_of packet)) None (λ e. differs (sym e)) in
      other_next packets middle new id authenticator (kept ∙ h) run,
)

none_repeated :
    (packets : List (List ℕ)) (old new : List (Option (List ℕ)))
    → length old ≡ 256 → RequestRun old packets new → NoneRepeated packets
none_repeated [] old new size r = tt
none_repeated (packet ∷ packets) old new size (middle, step, run) =
    let last : last_at middle (slice_index packet 1) ≡ Some (authenticator_of packet) =
    ap (λ l. last_at l (slice_index packet 1)) step.after
    ∙ get_or-set_same old (slice_index packet 1) (Some (authenticator_of packet)) None
    (omega (arith, size, step.octet)) in
    let still : length middle ≡ 256 =
    ap length step.after ∙ length-set old (slice_index packet 1) (Some (authenticator_of packet)) ∙ size in (
      other_next packets middle new (slice_index packet 1) (authenticator_of packet) last run,
      none_repeated packets middle new still run,
    )

pub none_repeated_from_none :
    (packets : List (List ℕ)) (new : List (Option (List ℕ))) → RequestRun none_put packets new → NoneRepeated packets
none_repeated_from_none packets new r =
    none_repeated packets none_put new (length-replicate {A = Option (List ℕ)} 256 None) r

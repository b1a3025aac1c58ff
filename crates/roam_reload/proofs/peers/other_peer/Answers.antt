use Rattle.std.proofs.Common.{map, refl, sym, ◌∙◌, arith}
use Rattle.std.proofs.lemmas.List.{length-map}
use Rattle.roam_conf.specs.Parts.{shown_peer}
use Rattle.roam_reload.proofs.PeerLemmas.{agrees, all_kept, differs, gone, kept_at, one_more, other}
use Rattle.roam_reload.proofs.peers.other_peer.Goals as goal
use Rattle.roam_reload.proofs.peers.other_peer.Goals.{then-i-new-via-then-i-new, then-i-new-via-else-i-new+then-is_some}

-- the peer of the index went, or is another
pub returns-then-i-new-clause-some : goal.returns-then-i-new-clause-some
returns-then-i-new-clause-some c =
    let old = c.args.old.now in
    let new = c.args.new.now in
    elim c.then-i-new.branch [
      | then-i-new-via-then-i-new w ↦ gone old new c.loop-i.i c.loop-i-test.true w.if-i-new.true
      | then-i-new-via-else-i-new+then-is_some w ↦
          other old new c.loop-i.i w.index-old-i.result w.index-new-i.result c.loop-i-test.true (omega arith)
          w.index-old-i.is w.index-new-i.is
          (differs (shown_peer w.index-old-i.result) (shown_peer w.index-new-i.result) w.peer_difference.result
          w.peer_difference.ensures.some (sym w.is_some.ensures ∙ w.if-is_some.true))
    ]

-- one peer more is kept
pub loop-i-preserved : goal.loop-i-preserved
loop-i-preserved c =
    let old = c.args.old.now in
    let new = c.args.new.now in (
      refl,
      refl,
      one_more (map shown_peer old) (map shown_peer new) c.loop-i.i c.loop-i.invariant.2
          (kept_at old new c.loop-i.i c.index-old-i.result c.index-new-i.result (omega arith) (omega arith)
          c.index-old-i.is c.index-new-i.is
          (agrees (shown_peer c.index-old-i.result) (shown_peer c.index-new-i.result) c.peer_difference.result
          c.peer_difference.ensures.none (sym c.is_some.ensures ∙ c.if-is_some.false))),
    )

-- none was looked at
pub loop-i-init : goal.loop-i-init
loop-i-init c = (refl, refl, λ peer less. absurd (omega (arith, less)))

-- all are
pub returns-clause-none : goal.returns-clause-none
returns-clause-none c =
    let old = c.args.old.now in
    all_kept (map shown_peer old) (map shown_peer c.args.new.now) (λ peer less.
    c.loop-i.invariant.2 peer (omega (arith, less, length-map old shown_peer)))

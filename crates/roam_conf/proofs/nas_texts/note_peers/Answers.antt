use Rattle.std.proofs.Common.{◌≡◌, ◌∙◌, ◌++◌, true, map, sym, arith}
use Rattle.roam_conf.specs.Duplicates.{nas_texts_of}
use Rattle.roam_conf.specs.Index.{owners, of_nobody}
use Rattle.roam_conf.specs.Parts.{shown_peer}
use Rattle.roam_conf.proofs.NameLemmas.{more_new, not_new}
use Rattle.roam_conf.proofs.TargetLemmas.{texts_of_peer}
use Rattle.roam_conf.proofs.nas_texts.note_peers.Goals as goal

-- one of the peer's texts is there already
pub returns-then-not-branch : goal.returns-then-not-branch
returns-then-not-branch c =
    let at = texts_of_peer c.args.peers.now c.loop-peer.peer-index c.peer-item.result (omega arith) c.peer-item.is in
    let before = rw at at c.loop-peer.invariant in
    not_new (owners c.args.index.now) (owners c.loop-peer.index)
    (map of_nobody (nas_texts_of (shown_peer c.peer-item.result))) _ _
    (sym c.if-not-branch.true ∙ c.in_ok-note_peer.ensures.new) before

-- all of them are new
pub loop-peer-preserved : goal.loop-peer-preserved
loop-peer-preserved c =
    let here = map of_nobody (nas_texts_of (shown_peer c.peer-item.result)) in
    let at = texts_of_peer c.args.peers.now c.loop-peer.peer-index c.peer-item.result (omega arith) c.peer-item.is in
    let before = rw at at c.loop-peer.invariant in
    let is_new : c.in_ok-note_peer.field-0 ≡ true = c.if-not-branch.false in
    let noted : owners c.note_peer.new.index ≡ owners c.loop-peer.index ++ here =
    c.in_ok-note_peer.ensures.noted is_new in
    rw noted (more_new (owners c.args.index.now) (owners c.loop-peer.index) here _ _
    (sym is_new ∙ c.in_ok-note_peer.ensures.new) before)

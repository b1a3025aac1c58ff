use Rattle.std.proofs.Common.{ℕ, List, map, subst, sym, arith}
use Rattle.std.proofs.lemmas.List.{length-map}
use Rattle.roam_conf.specs.Parts.{shown_peer}
use Rattle.roam_migrate.proofs.ChangedLemmas.{AreChangedBelow, all-changed, none-changed, one-noted}
use Rattle.roam_migrate.proofs.reload.changed_peers.Goals as goal

pub loop-i-init : goal.loop-i-init
loop-i-init g c =
    let old = map shown_peer c.args.old.now in
    let new = map shown_peer c.args.new.now in
    subst (λ (l : List ℕ). AreChangedBelow old new 0 l) (sym c.new-changed.ensures.items) (none-changed old new)

pub loop-i-preserved : goal.loop-i-preserved
loop-i-preserved g c =
    one-noted (map shown_peer c.args.old.now) (map shown_peer c.args.new.now) c.loop-i.i c.loop-i.changed.items
    c.note.new.numbers.items c.is_changed_at.result c.is_changed_at.ensures c.in_ok-note.ensures c.loop-i.invariant

pub returns : goal.returns
returns g c =
    let old = map shown_peer c.args.old.now in
    all-changed old (map shown_peer c.args.new.now) c.loop-i.i c.loop-i.changed.items
    (omega (arith, length-map c.args.old.now shown_peer)) c.loop-i.invariant

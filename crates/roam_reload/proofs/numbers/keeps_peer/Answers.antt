use Rattle.std.proofs.Common.{◌||◌, ◌∙◌, ap, refl, sym, arith}
use Rattle.roam_conf.specs.Config.{PeerView}
use Rattle.roam_conf.specs.Parts.{shown_peer}
use Rattle.roam_reload.specs.Numbers.{same_peer_name}
use Rattle.roam_reload.proofs.NumberLemmas.{tells, tells_none}
use Rattle.roam_reload.proofs.numbers.keeps_peer.Goals as goal

-- it went
pub returns-then-after : goal.returns-then-after
returns-then-after c =
    let before = c.index-old-i.result in
    let after = c.in-Some.after.now in
    tells shown_peer same_peer_name (λ (x : PeerView). x.gone) c.args.old.now c.args.new.now c.args.i before after
    after.gone c.requires c.index-old-i.is (omega (arith, c.in-Some.ensures.lookup)) c.in-Some.ensures.lookup.1
    (c.if-after.true ∙ ap (λ b. b || same_peer_name (shown_peer before) (shown_peer after)) (sym c.if-after.true))

-- its name tells
pub returns-else-after : goal.returns-else-after
returns-else-after c =
    let before = c.index-old-i.result in
    let after = c.in-Some.after.now in
    tells shown_peer same_peer_name (λ (x : PeerView). x.gone) c.args.old.now c.args.new.now c.args.i before after _
    c.requires c.index-old-i.is (omega (arith, c.in-Some.ensures.lookup)) c.in-Some.ensures.lookup.1
    (c.is_same_peer.ensures
    ∙ ap (λ b. b || same_peer_name (shown_peer before) (shown_peer after)) (sym c.if-after.false))

-- there is none any more
pub returns-in-None : goal.returns-in-None
returns-in-None c =
    tells_none shown_peer same_peer_name (λ (x : PeerView). x.gone) c.args.old.now c.args.new.now c.args.i
    c.index-old-i.result _ c.requires c.index-old-i.is (omega (arith, c.in-None.ensures.lookup)) refl

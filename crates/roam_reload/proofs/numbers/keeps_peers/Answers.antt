use Rattle.std.proofs.Common.{refl}
use Rattle.std.proofs.lemmas.Bool.{false≢true}
use Rattle.roam_conf.specs.Config.{PeerView}
use Rattle.roam_conf.specs.Parts.{shown_peer}
use Rattle.roam_reload.specs.Numbers.{same_peer_name}
use Rattle.roam_reload.proofs.NumberLemmas.{all_kept, none_first, not_kept, one_more}
use Rattle.roam_reload.proofs.numbers.keeps_peers.Goals as goal

pub loop-i-init : goal.loop-i-init
loop-i-init c = none_first shown_peer same_peer_name (λ (x : PeerView). x.gone) c.args.old.now c.args.new.now

-- an index that isn't kept
pub returns-then-not-keeps_peer : goal.returns-then-not-keeps_peer
returns-then-not-keeps_peer c = (
  λ yes'. absurd (false≢true yes'),
  λ all. absurd (not_kept shown_peer same_peer_name (λ (x : PeerView). x.gone) c.args.old.now c.args.new.now
      c.loop-i.i c.keeps_peer.result c.keeps_peer.ensures c.if-not-keeps_peer.true all),
)

pub loop-i-preserved : goal.loop-i-preserved
loop-i-preserved c =
    one_more shown_peer same_peer_name (λ (x : PeerView). x.gone) c.args.old.now c.args.new.now c.loop-i.i
    c.keeps_peer.result c.loop-i.invariant c.keeps_peer.ensures c.if-not-keeps_peer.false

pub returns : goal.returns
returns c = (
  λ yes'. all_kept shown_peer same_peer_name (λ (x : PeerView). x.gone) c.args.old.now c.args.new.now c.loop-i.i
      c.loop-i-test.false c.loop-i.invariant,
  λ all. refl,
)

use Rattle.std.proofs.Common.{◌≡◌, ◌++◌, [], ◌∷◌, length, map, ap, ◌∙◌, arith}
use Rattle.std.proofs.lemmas.Grind.{common_steps}
use Rattle.std.proofs.lemmas.List.{length-map}
use Rattle.roam_conf.specs.Parts.{shown_peer}
use Rattle.roam_reload.specs.Numbers.{gone_peer, same_peer_name}
use Rattle.roam_reload.proofs.LayingLemmas.{all_laid, one_laid, slots_more}
use Rattle.roam_reload.proofs.SameTableLemmas.{peers_meet, peers_part}
use Rattle.roam_reload.proofs.laying_peers.laid_peers.Goals as goal

pub loop-peer-init : goal.loop-peer-init
loop-peer-init c =
    let none : c.new-laid.result.items ≡ [] = c.new-laid.ensures.items in
    record { laid = ap (map shown_peer) none; slots = c.in_ok-slots.ensures }

-- the table of one more
pub loop-peer-preserved : goal.loop-peer-preserved
loop-peer-preserved c =
    let more : c.push.new.self.items ≡ c.loop-peer.laid.items ++ c.in_ok-next.next ∷ [] =
    grind (arith, common_steps) in
    let new = map shown_peer c.args.new.items in
    let i = c.loop-peer.peer-index in
    let at = c.peer-item.result in
    let inv = c.loop-peer.invariant in
    record {
      laid = one_laid shown_peer same_peer_name peers_meet peers_part gone_peer c.args.old.now new i at
          c.loop-peer-test.true c.peer-item.is c.requires.old c.requires.new _ inv.slots c.loop-peer.laid.items
          c.push.new.self.items c.in_ok-next.next more inv.laid c.in_ok-next.ensures.table;
      slots = c.in_ok-next.ensures.slots
          ∙ slots_more shown_peer same_peer_name peers_meet peers_part gone_peer c.args.old.now new i at
          c.loop-peer-test.true c.peer-item.is c.requires.old c.requires.new _ inv.slots;
    }

pub returns : goal.returns
returns c =
    let end : length (map shown_peer c.args.old.now) ≡ length c.args.old.now = length-map c.args.old.now shown_peer in
    c.in_ok-put_tables.ensures
    ∙ all_laid same_peer_name gone_peer (map shown_peer c.args.old.now) (map shown_peer c.args.new.items)
    c.loop-peer.peer-index _ _ (omega (arith, end, c.loop-peer-test.false)) c.loop-peer.invariant.laid
    c.loop-peer.invariant.slots

use Rattle.roam_conf.specs.Config.{PeerView}
use Rattle.roam_conf.specs.Parts.{shown_peer}
use Rattle.roam_reload.specs.Numbers.{same_peer_name}
use Rattle.roam_reload.proofs.NumberLemmas.{KeepsFirst}
use Rattle.roam_reload.proofs.numbers.keeps_peers.Given as goal

abbrev pub invariant-loop-i : goal.invariant-loop-i
invariant-loop-i l =
    KeepsFirst shown_peer same_peer_name (λ (x : PeerView). x.gone) l.fn.old l.fn.new l.i

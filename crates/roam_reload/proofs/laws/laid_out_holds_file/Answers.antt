use Rattle.std.proofs.Common.{refl}
use Rattle.roam_conf.specs.Config.{PeerView, RealmView}
use Rattle.roam_reload.specs.Numbers.{gone_peer, gone_realm, same_peer_name, same_realm_name}
use Rattle.roam_reload.proofs.HoldsLemmas.{holds_just}
use Rattle.roam_reload.proofs.SameTableLemmas.{peers_differ, peers_meet, peers_part, realms_differ, realms_meet, realms_part}
use Rattle.roam_reload.proofs.laws.laid_out_holds_file.Goals as goal

pub returns : goal.returns
returns c = λ old new consistent. record {
  peers = holds_just same_peer_name peers_meet peers_part gone_peer (λ (x : PeerView). x.gone) (λ _. refl) old.peers
      new.peers (peers_differ new.peers consistent.peers);
  realms = holds_just same_realm_name realms_meet realms_part gone_realm (λ (x : RealmView). x.gone) (λ _. refl)
      old.realms new.realms (realms_differ new.realms new.reject consistent.realms);
}

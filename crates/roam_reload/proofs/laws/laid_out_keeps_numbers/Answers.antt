use Rattle.std.proofs.Common.{refl}
use Rattle.roam_conf.specs.Config.{PeerView, RealmView}
use Rattle.roam_reload.specs.Numbers.{gone_peer, gone_realm, same_peer_name, same_realm_name}
use Rattle.roam_reload.proofs.LayingLemmas.{keeps_each}
use Rattle.roam_reload.proofs.laws.laid_out_keeps_numbers.Goals as goal

pub returns : goal.returns
returns c = λ old new. record {
  peers = keeps_each same_peer_name gone_peer (λ (x : PeerView). x.gone) (λ _. refl) old.peers new.peers;
  realms = keeps_each same_realm_name gone_realm (λ (x : RealmView). x.gone) (λ _. refl) old.realms new.realms;
}

use Rattle.std.proofs.Common.{◌≡◌, List, Some, subst}
use Rattle.roam_conf.specs.Config.{PeerView}
use Rattle.roam_sessions.specs.ShownLedgers.{shown_session}
use Rattle.roam_sessions.specs.Parts.{shown_parts}
use Rattle.roam_realm.specs.Saving.{saved_session}
use Rattle.roam_realm.proofs.WrittenLemmas.{gains_one, on_one}
use Rattle.roam_realm.proofs.realm_numbers.RealmNumbers.save_one.Goals as goal

pub returns : goal.returns
returns g c =
    let one = shown_parts c.in-Some.parts in
    let saved = shown_session c.in-Some-item_of.item in
    let is : saved_session c.args.settings.now.peers one ≡ Some saved =
    subst (λ (ps : List PeerView). saved_session ps one ≡ Some saved) c.peers.ensures.peers
    c.in-Some-item_of.ensures in
    on_one c.put.result c.put.ensures
    (gains_one c.args.settings.now c.args.self.now.sessions.sessions c.args.writing.now c.put.new.self one saved
    c.in-Some.ensures is)

use Rattle.std.proofs.Common.{◌≡◌, ◌∙◌, ◌++◌, List, Option, [], ap, ap₂, sym}
use Rattle.std.specs.Option.{option_map_or}
use Rattle.roam_wire.specs.declared.removed_attribute.RemovedAttribute.{RemovedAttribute}
use Rattle.roam_conf.specs.Config.{PeerView, RealmView}
use Rattle.roam_realm.specs.Shapings.{reply_removed}
use Rattle.roam_realm.proofs.ShapingLemmas.{removed-is}
use Rattle.roam_realm.proofs.realm_settings.RealmSettings.reply_removal.Goals as goal

-- the peer's list and the realm's
pub returns : goal.returns
returns c =
    let its = c.as_slice.ensures.value
    ∙ ap (λ (p : Option PeerView). option_map_or (λ x. x.reply_without) p []) (sym c.peer.ensures.peer) in
    let realm = c.as_slice-2.ensures.value ∙ ap (λ (r : RealmView). r.reply_without) c.realm.ensures in
    let both : c.as_slice.result.now ++ c.as_slice-2.result.now ≡ reply_removed c.args.self.now c.args.peer =
    ap₂ (λ (x y : List RemovedAttribute). x ++ y) its realm in
    removed-is _ (reply_removed c.args.self.now c.args.peer) both

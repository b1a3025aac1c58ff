use Rattle.std.proofs.Common.{◌∙◌, Option, ap, option_map}
use Rattle.std.specs.List.{slice_get}
use Rattle.roam_conf.specs.Asking.{is_peer_of, both_pass}
use Rattle.roam_conf.specs.Config.{PeerView, RealmView}
use Rattle.roam_conf.specs.Parts.{shown_peer}
use Rattle.roam_conf.specs.Shown.{shown}
use Rattle.roam_conf.proofs.config.Config.is_peer_of.Goals as goal

-- the realm and the peer of these indexes, where both are configured
pub returns : goal.returns
returns c =
    c.is_peer_if_both.ensures
    ∙ ap (λ (r : Option RealmView). both_pass is_peer_of r (option_map (λ p. shown_peer p.now) c.peer_at.result))
    c.realm_at.ensures
    ∙ ap (λ (p : Option PeerView). both_pass is_peer_of (slice_get (shown c.args.self.now).realms c.args.realm) p)
    c.peer_at.ensures

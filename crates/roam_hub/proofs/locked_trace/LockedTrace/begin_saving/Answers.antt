-- The realm's name is written, or nothing.
use Rattle.std.proofs.Common.{◌≡◌, ◌⊎◌, inl, refl, ap, subst, ◌∙◌}
use Rattle.roam_conf.specs.Config.{ConfigView}
use Rattle.roam_realm.specs.RealmConfig.{realm_config}
use Rattle.roam_realm.specs.Written.{GainsRealm}
use Rattle.roam_shard.specs.ShardView.{OpeningView}
use Rattle.roam_hub.proofs.locked_trace.LockedTrace.begin_saving.Goals as goal

pub returns-then-not-goes_on : goal.returns-then-not-goes_on
returns-then-not-goes_on g c = inl refl

pub returns-in-Ok : goal.returns-in-Ok
returns-in-Ok g c =
    let config = ap (λ (o : OpeningView). o.config) c.shard-2.ensures.opening ∙ c.self.invariant.0.config in
    let old = c.args.writing.now in
    let new = c.save_realm.new.writing in
    subst (λ (x : ConfigView). (new ≡ old) ⊎ GainsRealm (realm_config x c.args.realm) old new) config c.in-Ok.ensures

-- The sessions that are written are open where the whole history of their shard ends.
use Rattle.std.proofs.Common.{◌≡◌, true, List, inl, inr, refl, ap, subst, sym, ◌∙◌}
use mathlib.Core.List.{IsPrefix}
use Rattle.roam_conf.specs.Config.{ConfigView}
use Rattle.roam_history.specs.Seats.{front_of}
use Rattle.roam_realm.specs.RealmConfig.{realm_config}
use Rattle.roam_realm.specs.RealmState.{RealmState}
use Rattle.roam_realm.specs.Written.{GainsOpen}
use Rattle.roam_realm.proofs.WrittenLemmas.{on_one}
use Rattle.roam_core.specs.ManyRealms.{state_at}
use Rattle.roam_shard.specs.ShardView.{OpeningView}
use Rattle.roam_hub.specs.Keeping.{KeptView}
use Rattle.roam_hub.proofs.EndLemmas.{saves_in}
use Rattle.roam_hub.proofs.locked_trace.LockedTrace.save.Goals as goal

pub returns-then-not-goes_on : goal.returns-then-not-goes_on
returns-then-not-goes_on g c = inl refl

pub returns : goal.returns
returns g c =
    let i = c.self.inside in
    let k : KeptView = record { trace = i.traced; front = i.front } in
    let seat = c.args.seat.now in
    let realm = c.args.realm in
    let old = c.args.writing.now in
    let new = c.save.new.writing in
    let config = ap (λ (o : OpeningView). o.config) c.shard.ensures.opening ∙ c.self.invariant.0.config in
    let yes : c.goes_on.result ≡ true = cc in
    let here : i.front.shard ≡ c.args.shard = ap (λ (v : KeptView). v.front.shard) c.self.view_is
    ∙ c.goes_on.ensures.shard yes in
    let begins : IsPrefix (front_of seat c.args.shard) i.front.entries =
    subst (λ (v : KeptView). IsPrefix (front_of seat c.args.shard) v.front.entries) (sym c.self.view_is)
    (c.goes_on.ensures.begins yes) in
    on_one _ c.save.ensures
    (λ gains. inr (saves_in g.N.Opened.opening k c.args.shard realm seat old new c.self.invariant.0 here begins
    (subst (λ (x : ConfigView). GainsOpen (realm_config x realm) (state_at i.traced.states realm).sessions old new)
    config
    (subst (λ (s : List RealmState). GainsOpen (realm_config c.shard.result.now.opening.config realm)
    (state_at s realm).sessions old new) c.shard.ensures.states gains))))

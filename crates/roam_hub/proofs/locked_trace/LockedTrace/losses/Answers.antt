-- What goes of the realm is seen where the whole history of its shard ends.
use Rattle.std.proofs.Common.{◌≡◌, true, List, ap, subst, sym, ◌∙◌}
use Rattle.std.proofs.lemmas.Option.{IfSome_then}
use mathlib.Core.List.{IsPrefix}
use Rattle.roam_conf.specs.Config.{ConfigView}
use Rattle.roam_conf.specs.Shown.{shown}
use Rattle.roam_history.specs.Seats.{front_of}
use Rattle.roam_realm.specs.RealmState.{RealmState}
use Rattle.roam_migrate.specs.Carrying.{AreChanged}
use Rattle.roam_core.specs.ManyRealms.{state_at}
use Rattle.roam_shard.specs.Looks.{IsLoss}
use Rattle.roam_shard.specs.ShardView.{OpeningView}
use Rattle.roam_hub.specs.Keeping.{KeptView}
use Rattle.roam_hub.proofs.EndLemmas.{loses_in}
use Rattle.roam_hub.proofs.locked_trace.LockedTrace.losses.Goals as goal

pub losses-requires : goal.losses-requires
losses-requires g c =
    let config = ap (λ (o : OpeningView). o.config) c.shard.ensures.opening ∙ c.self.invariant.0.config in
    subst (λ (x : ConfigView). AreChanged x.peers (shown c.args.next.now).peers c.args.changed.now) (sym config)
    c.requires.changed

pub returns : goal.returns
returns g c =
    let i = c.self.inside in
    let k : KeptView = record { trace = i.traced; front = i.front } in
    let seat = c.args.seat.now in
    let next = shown c.args.next.now in
    let config = ap (λ (o : OpeningView). o.config) c.shard.ensures.opening ∙ c.self.invariant.0.config in
    let yes : c.goes_on.result ≡ true = cc in
    let here : i.front.shard ≡ c.args.shard = ap (λ (v : KeptView). v.front.shard) c.self.view_is
    ∙ c.goes_on.ensures.shard yes in
    let begins : IsPrefix (front_of seat c.args.shard) i.front.entries =
    subst (λ (v : KeptView). IsPrefix (front_of seat c.args.shard) v.front.entries) (sym c.self.view_is)
    (c.goes_on.ensures.begins yes) in
    IfSome_then c.losses.result c.losses.ensures
    (λ n is. loses_in g.N.Opened.opening next k c.args.shard c.args.realm seat n c.self.invariant.0 here begins
    (subst (λ (x : ConfigView). IsLoss x next c.args.realm (state_at i.traced.states c.args.realm) n) config
    (subst (λ (s : List RealmState). IsLoss c.shard.result.now.opening.config next c.args.realm
    (state_at s c.args.realm) n) c.shard.ensures.states is)))

-- The realm stands where the whole history of its shard ends.
use Rattle.std.proofs.Common.{◌≡◌, true, List, ap, subst, sym, ◌∙◌}
use Rattle.std.proofs.lemmas.Option.{IfSome_then}
use mathlib.Core.List.{IsPrefix}
use Rattle.roam_history.specs.Seats.{front_of}
use Rattle.roam_realm.specs.RealmState.{RealmState}
use Rattle.roam_core.specs.ManyRealms.{state_at}
use Rattle.roam_shard.specs.Looks.{StandsAs}
use Rattle.roam_hub.specs.Keeping.{KeptView}
use Rattle.roam_hub.proofs.EndLemmas.{stands_in}
use Rattle.roam_hub.proofs.locked_trace.LockedTrace.gauges.Goals as goal

pub returns : goal.returns
returns g c =
    let i = c.self.inside in
    let k : KeptView = record { trace = i.traced; front = i.front } in
    let seat = c.args.seat.now in
    let yes : c.goes_on.result ≡ true = cc in
    let here : i.front.shard ≡ c.args.shard = ap (λ (v : KeptView). v.front.shard) c.self.view_is
    ∙ c.goes_on.ensures.shard yes in
    let begins : IsPrefix (front_of seat c.args.shard) i.front.entries =
    subst (λ (v : KeptView). IsPrefix (front_of seat c.args.shard) v.front.entries) (sym c.self.view_is)
    (c.goes_on.ensures.begins yes) in
    IfSome_then c.gauges.result c.gauges.ensures.stands
    (λ n stands. stands_in g.N.Opened.opening k c.args.shard c.args.realm seat n c.self.invariant.0 here begins
    (subst (λ (s : List RealmState). StandsAs (state_at s c.args.realm) n) c.shard.ensures.states stands))

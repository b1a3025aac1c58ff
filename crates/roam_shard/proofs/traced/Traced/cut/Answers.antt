-- The history that the type keeps.
use Rattle.std.proofs.Common.{◌≡◌, List, length, subst}
use Rattle.roam_realm.specs.RealmState.{RealmState}
use Rattle.roam_shard.specs.History.{Ends, TraceView}
use Rattle.roam_shard.specs.Steps.{PlainStep}
use Rattle.roam_shard.proofs.traced.Traced.cut.Goals as goal

pub returns-clause-history : goal.returns-clause-history
returns-clause-history g c =
    let is = c.self.invariant.0 in
    subst (λ (v : TraceView). (states : List RealmState)
    × ((before : List PlainStep) × Ends v states before × (length before ≡ v.gone))) c.self.view_is (
      is.first,
      (is.before, is.ends, is.count),
    )

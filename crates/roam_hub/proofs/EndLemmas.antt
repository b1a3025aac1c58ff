-- What is looked at under a lock, and what is written of it, is how the realms stand where the history ends.
use Rattle.std.proofs.Common.{◌≡◌, ℕ, List, ap, subst, ◌∙◌}
use mathlib.Core.List.{IsPrefix}
use Rattle.roam_conf.specs.Config.{ConfigView}
use Rattle.roam_realm.specs.RealmConfig.{realm_config}
use Rattle.roam_realm.specs.RealmState.{RealmState}
use Rattle.roam_realm.specs.Written.{GainsOpen}
use Rattle.roam_realm.specs.declared.gauges.Gauges.{Gauges}
use Rattle.roam_migrate.specs.declared.losses.Loss.{Loss}
use Rattle.roam_core.specs.ManyRealms.{state_at}
use Rattle.roam_shard.specs.Looks.{IsLoss, StandsAs}
use Rattle.roam_shard.specs.History.{IsHistory, end_of}
use Rattle.roam_history.specs.Entries.{steps_in}
use Rattle.roam_history.specs.HubOpening.{HubOpening, opening_at}
use Rattle.roam_history.specs.Seats.{SeatView, front_of}
use Rattle.roam_hub.specs.Keeping.{IsKept, KeptView}
use Rattle.roam_history.specs.Looks.{LosesIn, StandsIn}
use Rattle.roam_history.specs.Written.{SavesIn}
use Rattle.roam_hub.proofs.KeptLemmas.{whole_end, whole_history}

-- how a realm stands where the history ends
pub stands_in : (o : HubOpening) (k : KeptView) (shard realm : ℕ) (seat : SeatView) (g : Gauges) → IsKept o k
    → k.front.shard ≡ shard → IsPrefix (front_of seat shard) k.front.entries →
    StandsAs (state_at k.trace.states realm) g → StandsIn o shard realm seat g
stands_in o k shard realm seat g kept here begins stands =
    let end = whole_end o k kept ∙ ap (λ (n : ℕ). end_of (opening_at o n) (steps_in k.front.entries)) here in
    record {
      entries = k.front.entries;
      begins = begins;
      history = subst (λ (n : ℕ). IsHistory (opening_at o n) (steps_in k.front.entries)) here (whole_history o k kept);
      stands = subst (λ states. StandsAs (state_at states realm) g) end stands;
    }

-- and what would go of it by a change
pub loses_in : (o : HubOpening) (next : ConfigView) (k : KeptView) (shard realm : ℕ) (seat : SeatView) (loss : Loss)
    → IsKept o k → k.front.shard ≡ shard → IsPrefix (front_of seat shard) k.front.entries
    → IsLoss o.config next realm (state_at k.trace.states realm) loss → LosesIn o next shard realm seat loss
loses_in o next k shard realm seat loss kept here begins loses =
    let end = whole_end o k kept ∙ ap (λ (n : ℕ). end_of (opening_at o n) (steps_in k.front.entries)) here in
    record {
      entries = k.front.entries;
      begins = begins;
      history = subst (λ (n : ℕ). IsHistory (opening_at o n) (steps_in k.front.entries)) here (whole_history o k kept);
      loses = subst (λ states. IsLoss o.config next realm (state_at states realm) loss) end loses;
    }

-- the sessions are open where the whole history ends
pub saves_in : (o : HubOpening) (k : KeptView) (shard index : ℕ) (seat : SeatView) (old new : List ℕ)
    → IsKept o k → k.front.shard ≡ shard → IsPrefix (front_of seat shard) k.front.entries
    → GainsOpen (realm_config o.config index) (state_at k.trace.states index).sessions old new
    → SavesIn o shard index seat old new
saves_in o k shard index seat old new kept here begins gains =
    let end = whole_end o k kept ∙ ap (λ (n : ℕ). end_of (opening_at o n) (steps_in k.front.entries)) here in
    record {
      entries = k.front.entries;
      begins = begins;
      history = subst (λ (n : ℕ). IsHistory (opening_at o n) (steps_in k.front.entries)) here (whole_history o k kept);
      writes = subst (λ (states : List RealmState).
          GainsOpen (realm_config o.config index) (state_at states index).sessions old new) end gains;
    }

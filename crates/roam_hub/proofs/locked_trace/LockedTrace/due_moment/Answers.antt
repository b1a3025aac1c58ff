-- What is due in the shard is due in the trace.
use Rattle.std.proofs.Common.{◌≡◌, false, List, subst, sym}
use Rattle.roam_realm.specs.RealmState.{RealmState}
use Rattle.roam_shard.specs.Turns.{NothingDue}
use Rattle.roam_history.specs.Moments.{IsTickMoment}
use Rattle.roam_hub.specs.Keeping.{KeptView}
use Rattle.roam_hub.proofs.locked_trace.LockedTrace.due_moment.Goals as goal

pub returns-then-not-is_due-clause-none : goal.returns-then-not-is_due-clause-none
returns-then-not-is_due-clause-none g c =
    let no : c.is_due.result ≡ false = cc in
    subst (λ (v : KeptView). NothingDue c.args.now v.trace.states) c.self.view_is (c.is_due.ensures.0 no)

pub moment_of_tick-requires : goal.moment_of_tick-requires
moment_of_tick-requires g c = λ none.
    absurd (let no = c.is_due.ensures.1
    (subst (λ (s : List RealmState). NothingDue c.args.now s) c.shard.ensures.states none) in cc)

pub returns-clause-due : goal.returns-clause-due
returns-clause-due g c = λ none.
    absurd (let no = c.is_due.ensures.1
    (subst (λ (v : KeptView). NothingDue c.args.now v.trace.states) (sym c.self.view_is) none) in cc)

pub returns-clause-part : goal.returns-clause-part
returns-clause-part g c =
    subst (λ (v : KeptView). IsTickMoment c.args.now v.trace.states c.moment_of_tick.result) c.self.view_is
    (subst (λ (s : List RealmState). IsTickMoment c.args.now s c.moment_of_tick.result) c.shard.ensures.states
    c.moment_of_tick.ensures)

use Rattle.std.proofs.Common.{◌≡◌, ◌^◌, false, refl, arith, ltb}
use Rattle.std.proofs.lemmas.Bool.Decides.{nat_tests}
use Rattle.roam_rules.specs.RealmTurn.{state}
use Rattle.roam_rules.proofs.RealmLemmas.{keeps-none}
use Rattle.roam_rules.proofs.TurnLemmas.{admitted-gives}
use Rattle.roam_rules.proofs.realm_broker.RealmBroker.on_request.Goals as goal

-- it is a duplicate, or refused
pub returns-in-Answered : goal.returns-in-Answered
returns-in-Answered g c =
    let early : ltb (2 ^ 62) c.args.now ≡ false = grind (arith, nat_tests, c.if-now-gt-LATEST.false) in
    let plan = rw c.in-Answered.is at c.in_ok-turned.ensures.plan in
    record {
      turn = record {
        gives = rw early plan;
        succeeds = λ h. refl;
        rest = keeps-none g.E.Entries c.args.self.now c.requires.realm;
      };
    }

-- it is admitted
pub returns-in-Admitted : goal.returns-in-Admitted
returns-in-Admitted g c =
    let early : ltb (2 ^ 62) c.args.now ≡ false = grind (arith, nat_tests, c.if-now-gt-LATEST.false) in
    let plan = rw c.in-Admitted.is at c.in_ok-turned.ensures.plan in
    record {
      turn = record {
        gives = rw early (admitted-gives c.admit.result (state g.E.Entries c.args.self.now)
            (state g.E.Entries c.admit.new.self) _ _ _ _ plan.0.does plan.1 c.admit.ensures.turn
            c.admit.ensures.happening c.admit.ensures.no_memory);
        succeeds = λ none. absurd (let sends = rw (early, plan.0.does) at none in cc);
        rest = c.admit.ensures.keeps;
      };
    }

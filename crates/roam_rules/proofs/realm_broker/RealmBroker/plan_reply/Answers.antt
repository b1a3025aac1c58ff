use Rattle.std.proofs.Common.{◌≡◌, ◌^◌, true, arith, ltb}
use Rattle.std.proofs.lemmas.Bool.Decides.{nat_tests}
use Rattle.roam_rules.specs.RealmTurn.{state}
use Rattle.roam_rules.proofs.realm_broker.RealmBroker.plan_reply.Goals as goal

-- too late
pub returns-then-now-gt-LATEST-clause-plan : goal.returns-then-now-gt-LATEST-clause-plan
returns-then-now-gt-LATEST-clause-plan g c =
    let late : ltb (2 ^ 62) c.args.now ≡ true = grind (arith, nat_tests, c.if-now-gt-LATEST.true) in
    rw late (c.refused_reply.ensures c.args.self.now.settings.now (state g.E.Entries c.args.self.now))

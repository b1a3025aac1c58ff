use Rattle.roam_rules.proofs.realm_broker.RealmBroker.apply_action.Goals as goal

pub returns-in-SentAgain-clause-outs : goal.returns-in-SentAgain-clause-outs
returns-in-SentAgain-clause-outs g c = λ places packets h.
    rw c.in-SentAgain.is (c.push.ensures.outs places packets h)

pub returns-in-Forwarded-clause-outs : goal.returns-in-Forwarded-clause-outs
returns-in-Forwarded-clause-outs g c = λ places packets h.
    rw c.in-Forwarded.is (c.push-in-Forwarded.ensures.outs places packets h)

pub returns-in-Refused-clause-outs : goal.returns-in-Refused-clause-outs
returns-in-Refused-clause-outs g c = λ places packets h.
    rw c.in-Refused.is (c.push-in-Refused.ensures.outs places packets h)

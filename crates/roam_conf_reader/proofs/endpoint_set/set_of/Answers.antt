use Rattle.std.proofs.Common.{sym, arith}
use Rattle.std.proofs.lemmas.List.{get_or_default}
use Rattle.roam_conf_reader.proofs.PairLemmas.{none_apart, next_apart, twice, all_apart}
use Rattle.roam_conf_reader.proofs.endpoint_set.set_of.Goals as goal

pub loop-endpoint-init : goal.loop-endpoint-init
loop-endpoint-init c = none_apart c.args.endpoints.now c.new-set.result.keys c.new-set.ensures.empty

-- an endpoint that is there already
pub returns-then-not-branch-clause-twice : goal.returns-then-not-branch-clause-twice
returns-then-not-branch-clause-twice c =
    sym (twice c.args.endpoints.now c.loop-endpoint.endpoint-index _ c.loop-endpoint.set.keys
    c.loop-endpoint.invariant (omega (arith, c.loop-endpoint-test.true))
    (get_or_default c.args.endpoints.now c.loop-endpoint.endpoint-index _ _ (omega (arith, c.loop-endpoint-test.true)))
    c.in_ok-add.field-0 c.in_ok-add.ensures.new c.if-not-branch.true)

-- one that isn't
pub loop-endpoint-preserved : goal.loop-endpoint-preserved
loop-endpoint-preserved c =
    next_apart c.args.endpoints.now c.loop-endpoint.endpoint-index _ c.loop-endpoint.set.keys
    c.loop-endpoint.invariant (omega (arith, c.loop-endpoint-test.true))
    (get_or_default c.args.endpoints.now c.loop-endpoint.endpoint-index _ _ (omega (arith, c.loop-endpoint-test.true)))
    c.in_ok-add.field-0 c.in_ok-add.ensures.new c.add.new.set.keys c.if-not-branch.false c.in_ok-add.ensures.keys

pub returns-clause-twice : goal.returns-clause-twice
returns-clause-twice c =
    (all_apart c.args.endpoints.now c.loop-endpoint.endpoint-index c.loop-endpoint.set.keys c.loop-endpoint.invariant
    (omega arith)).1

pub returns-clause-keys : goal.returns-clause-keys
returns-clause-keys c =
    (all_apart c.args.endpoints.now c.loop-endpoint.endpoint-index c.loop-endpoint.set.keys c.loop-endpoint.invariant
    (omega arith)).0

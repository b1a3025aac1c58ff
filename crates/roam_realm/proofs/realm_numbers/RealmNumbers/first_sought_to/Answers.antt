use Rattle.std.proofs.Common.{ℕ, ◌<◌, ◌≤◌, ◌∙◌, Option, ap, arith, length, sym}
use Rattle.std.specs.List.{find}
use Rattle.roam_address.specs.declared.endpoint.Endpoint.{Endpoint}
use Rattle.roam_conf.specs.declared.place.Link.{Link}
use Rattle.roam_realm.specs.RealmConfig.{server_link, ways_from, ways_to}
use Rattle.roam_realm.specs.Sound.{is_sought}
use Rattle.roam_realm.proofs.LinkLaneLemmas.{server-made}
use Rattle.roam_realm.proofs.WaysToLemmas.{out-of_link, way-hit, way-skip, ways-end}
use Rattle.roam_realm.proofs.realm_numbers.RealmNumbers.first_sought_to.Goals as goal

-- it takes none
pub returns-in_err-endpoint-clause-first : goal.returns-in_err-endpoint-clause-first
returns-in_err-endpoint-clause-first g c s there =
    let settings = c.args.settings.now in
    let rests = c.args.self.now.rests.items in
    let lanes = c.args.self.now.lanes.items in
    let outs = settings.realm.out in
    let by : ℕ → Link = server_link c.args.service c.args.server in
    let sought = is_sought settings rests lanes c.args.wanted c.args.freed in
    rw c.from_residual.ensures
    (ap (λ (o : Option Endpoint). find sought (ways_to outs by o)) (c.in_err-endpoint.ensures s there))

-- this way is sought, and none before it was
pub returns-then-is_sought_way-clause-first : goal.returns-then-is_sought_way-clause-first
returns-then-is_sought_way-clause-first g c s there =
    let settings = c.args.settings.now in
    let rests = c.args.self.now.rests.items in
    let lanes = c.args.self.now.lanes.items in
    let outs = settings.realm.out in
    let count = c.out_count-out-end.ensures.count in
    let by : ℕ → Link = server_link c.args.service c.args.server in
    let endpoint = c.in_ok-endpoint.endpoint in
    let sought = is_sought settings rests lanes c.args.wanted c.args.freed in
    let within : c.loop-out.out < length outs = omega (arith, c.loop-out-test.true, count) in
    way-hit sought by outs c.loop-out.out endpoint c.link-link.result
    (find sought (ways_from by 0 outs endpoint)) within (out-of_link c.args.service c.args.server c.loop-out.out)
    c.link-link.ensures (sym c.is_sought_way.ensures ∙ c.if-is_sought_way.true) c.loop-out.invariant
    ∙ ap (λ (o : Option Endpoint). find sought (ways_to outs by o)) (c.in_ok-endpoint.ensures s there)

-- this way isn't sought, nor was one before it
pub loop-out-preserved : goal.loop-out-preserved
loop-out-preserved g c =
    let settings = c.args.settings.now in
    let rests = c.args.self.now.rests.items in
    let lanes = c.args.self.now.lanes.items in
    let outs = settings.realm.out in
    let count = c.out_count-out-end.ensures.count in
    let by : ℕ → Link = server_link c.args.service c.args.server in
    let endpoint = c.in_ok-endpoint.endpoint in
    let sought = is_sought settings rests lanes c.args.wanted c.args.freed in
    let within : c.loop-out.out < length outs = omega (arith, c.loop-out-test.true, count) in
    way-skip sought by outs c.loop-out.out endpoint c.link-link.result
    (find sought (ways_from by 0 outs endpoint)) within (out-of_link c.args.service c.args.server c.loop-out.out)
    c.link-link.ensures (sym c.is_sought_way.ensures ∙ c.if-is_sought_way.false) c.loop-out.invariant

-- none was
pub returns-clause-first : goal.returns-clause-first
returns-clause-first g c s there =
    let settings = c.args.settings.now in
    let rests = c.args.self.now.rests.items in
    let lanes = c.args.self.now.lanes.items in
    let outs = settings.realm.out in
    let count = c.out_count-out-end.ensures.count in
    let by : ℕ → Link = server_link c.args.service c.args.server in
    let endpoint = c.in_ok-endpoint.endpoint in
    let sought = is_sought settings rests lanes c.args.wanted c.args.freed in
    let past : length outs ≤ c.loop-out.out = omega (arith, c.loop-out-test.false, count) in
    ways-end sought by outs c.loop-out.out endpoint
    (find sought (ways_from by 0 outs endpoint)) past c.loop-out.invariant
    ∙ ap (λ (o : Option Endpoint). find sought (ways_to outs by o)) (c.in_ok-endpoint.ensures s there)

-- and the memory of its lane is there
pub returns-then-is_sought_way-clause-made : goal.returns-then-is_sought_way-clause-made
returns-then-is_sought_way-clause-made g c = λ own.
    let settings = c.args.settings.now in
    let count = c.out_count-out-end.ensures.count in
    let within : c.loop-out.out < length settings.realm.out = omega (arith, c.loop-out-test.true, count) in
    server-made settings c.args.self.now.lanes.items c.args.service c.args.server c.loop-out.out c.link-link.result
    own c.requires.server within c.link-link.ensures

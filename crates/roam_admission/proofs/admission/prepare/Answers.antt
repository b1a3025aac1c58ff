use Rattle.std.proofs.Common.{◌≡◌, Some, sym, ap, rules}
use Rattle.std.specs.Prelude.{Ok}
use Rattle.roam_wire.specs.Reading.{reading}
use Rattle.roam_conf.specs.Shown.{shown}
use Rattle.roam_admission.specs.Shown.{shown_arrival}
use Rattle.roam_admission.proofs.EventLemmas.{prepared_of_sent}
use Rattle.roam_admission.specs.declared.job.Side.{Side}
use Rattle.roam_admission.proofs.admission.prepare.Goals as goal

-- a home server that was found is one of the realm of its place
pub sent-requires-clause-home : goal.sent-requires-clause-home
sent-requires-clause-home g c = λ realm nth i at home.
    c.in-Some.ensures.home realm nth i at (ap (λ (s : Side). Some s) home)

-- the packet is one, and its sender is known
pub returns-clause-prepared : goal.returns-clause-prepared
returns-clause-prepared g c =
    let packet = c.in_ok-view.ensures.packet.packet in
    let read : reading c.args.datagram.now.octets ≡ Ok c.in_ok-view.view = search rules in
    let from = sym c.in-Some.ensures.value in
    prepared_of_sent (shown c.args.config.now) (shown_arrival c.args.datagram.now) c.in_ok-view.view
    c.in-Some.side c.sent.result packet read from c.sent.ensures.answer

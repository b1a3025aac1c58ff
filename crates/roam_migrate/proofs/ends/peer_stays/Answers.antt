use Rattle.std.proofs.Common.{◌<◌, ◌∙◌, length, subst, sym}
use Rattle.roam_wire.specs.Reading.{packet_of}
use Rattle.roam_pending.specs.declared.key.Requester.{Requester}
use Rattle.roam_pending.specs.Shown.{shown_request}
use Rattle.roam_reload.proofs.KeptLemmas.{secret_kept}
use Rattle.roam_realm.specs.RealmConfig.{IsRequester}
use Rattle.roam_realm.specs.Sound.{CanGo, IsOfPeer}
use Rattle.roam_migrate.proofs.EndsLemmas.{peer_big, peer_off, peer_on}
use Rattle.roam_migrate.proofs.EntryThenLemmas.{peer_below}
use Rattle.roam_migrate.proofs.ends.peer_stays.Goals as goal

-- its peer is there, and there still
pub still_fits-requires-clause-peer : goal.still_fits-requires-clause-peer
still_fits-requires-clause-peer g c =
    let keeps = c.keeps_request.ensures in
    let below : c.args.peer < length c.args.old.now.peers =
    subst (IsRequester c.args.old.now) c.requires.sender c.requires.request.requester in
    peer_below c.args.old.now.peers c.args.new.now.peers c.args.peer
    (secret_kept c.args.old.now.peers c.args.new.now.peers c.args.peer c.args.request.now.key.from.ip
    (sym keeps ∙ c.if-keeps_request.true)) below

pub still_fits-requires-clause-packet : goal.still_fits-requires-clause-packet
still_fits-requires-clause-packet g c = c.requires.request.packet

pub returns-then-keeps_request-clause-stays : goal.returns-then-keeps_request-clause-stays
returns-then-keeps_request-clause-stays g c = λ fit.
    let keeps = c.keeps_request.ensures in
    let well : IsOfPeer c.args.old.now c.args.peer (packet_of c.args.request.now.octets) =
    subst (λ (r : Requester). CanGo c.args.old.now r (packet_of c.args.request.now.octets)) c.requires.sender
    c.requires.request.can_go in
    peer_on c.args.old.now c.args.new.now (shown_request c.args.request.now) c.args.peer c.requires.sender
    (sym keeps ∙ c.if-keeps_request.true) (sym (c.still_fits.ensures c.args.old.now well) ∙ fit)

pub returns-then-keeps_request-clause-goes : goal.returns-then-keeps_request-clause-goes
returns-then-keeps_request-clause-goes g c = λ big.
    let well : IsOfPeer c.args.old.now c.args.peer (packet_of c.args.request.now.octets) =
    subst (λ (r : Requester). CanGo c.args.old.now r (packet_of c.args.request.now.octets)) c.requires.sender
    c.requires.request.can_go in
    let below : c.args.peer < length c.args.old.now.peers =
    subst (IsRequester c.args.old.now) c.requires.sender c.requires.request.requester in
    peer_big c.args.old.now c.args.new.now (shown_request c.args.request.now) c.args.peer c.requires.sender below well
    (sym (c.still_fits.ensures c.args.old.now well) ∙ big)

pub returns-else-keeps_request-clause-goes : goal.returns-else-keeps_request-clause-goes
returns-else-keeps_request-clause-goes g c = λ no'.
    let keeps = c.keeps_request.ensures in
    peer_off c.args.old.now c.args.new.now (shown_request c.args.request.now) c.args.peer c.requires.sender
    (sym keeps ∙ c.if-keeps_request.false)

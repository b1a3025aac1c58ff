use Rattle.std.proofs.Common.{◌∙◌, sym, subst}
use Rattle.roam_wire.specs.Reading.{packet_of}
use Rattle.roam_wire.proofs.LawLemmas.{AreTextOf}
use Rattle.roam_crypto.specs.MessageAuthenticator.{HasAtMostOneMessageAuthenticator}
use Rattle.roam_forward.specs.Removal.{removed_by}
use Rattle.roam_reply.specs.Returned.{Returning, named, passing, unsealed_return}
use Rattle.roam_reply.specs.Shown.{shown}
use Rattle.roam_reply.proofs.ReturnedLemmas.{returned_text}
use Rattle.roam_reply.proofs.EveryCodeLemmas.{AtMostOne-unsealed}
use Rattle.roam_reply.proofs.PlainLemmas.{unsealed_there}
use Rattle.roam_reply.proofs.returning.seal_for_requester.Goals as goal

-- what is sealed is a packet
pub seal_and_sign-requires-clause-packet : goal.seal_and_sign-requires-clause-packet
seal_and_sign-requires-clause-packet c =
    let r : Returning = shown c.args.returning.now in
    let there : AreTextOf (unsealed_return r (passing (removed_by c.args.returning.now.removal)
    (named c.args.returning.now.own c.args.request.now c.args.reply.now))
    c.args.request.now) c.rehide_accept.new.octets =
    unsealed_there r (passing (removed_by c.args.returning.now.removal)
    (named c.args.returning.now.own c.args.request.now c.args.reply.now)) c.args.request.now
    c.args.octets.now c.rehide_accept.new.octets
    c.requires.plain.text c.requires.plain.packet c.rehide_accept.ensures in
    there.text

-- with at most one Message-Authenticator
pub seal_and_sign-requires-clause-at_most_one : goal.seal_and_sign-requires-clause-at_most_one
seal_and_sign-requires-clause-at_most_one c =
    let r : Returning = shown c.args.returning.now in
    let there : AreTextOf (unsealed_return r (passing (removed_by c.args.returning.now.removal)
    (named c.args.returning.now.own c.args.request.now c.args.reply.now))
    c.args.request.now) c.rehide_accept.new.octets =
    unsealed_there r (passing (removed_by c.args.returning.now.removal)
    (named c.args.returning.now.own c.args.request.now c.args.reply.now)) c.args.request.now
    c.args.octets.now c.rehide_accept.new.octets
    c.requires.plain.text c.requires.plain.packet c.rehide_accept.ensures in
    subst HasAtMostOneMessageAuthenticator (sym there.packet)
    (AtMostOne-unsealed r (passing (removed_by c.args.returning.now.removal)
    (named c.args.returning.now.own c.args.request.now c.args.reply.now)) c.args.request.now
    c.requires.at_most_one)

-- sealed and signed, it is the returned packet
pub returns : goal.returns
returns c =
    let r : Returning = shown c.args.returning.now in
    let there : AreTextOf (unsealed_return r (passing (removed_by c.args.returning.now.removal)
    (named c.args.returning.now.own c.args.request.now c.args.reply.now))
    c.args.request.now) c.rehide_accept.new.octets =
    unsealed_there r (passing (removed_by c.args.returning.now.removal)
    (named c.args.returning.now.own c.args.request.now c.args.reply.now)) c.args.request.now
    c.args.octets.now c.rehide_accept.new.octets
    c.requires.plain.text c.requires.plain.packet c.rehide_accept.ensures in
    c.seal_and_sign.ensures ∙ returned_text r (passing (removed_by c.args.returning.now.removal)
    (named c.args.returning.now.own c.args.request.now c.args.reply.now))
    c.args.request.now
    (packet_of c.rehide_accept.new.octets) c.authenticator.result c.authenticator.ensures there.packet

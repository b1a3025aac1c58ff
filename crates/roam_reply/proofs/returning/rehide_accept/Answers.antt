use Rattle.std.proofs.Common.{◌≡◌, ◌∙◌, List, ℕ, sym, ap, true, false}
use Rattle.std.specs.Prelude.{◌==◌}
use Rattle.std.proofs.lemmas.Bool.{eq-eqb, ne_eqb}
use Rattle.roam_wire.specs.Packet.{packet_text}
use Rattle.roam_wire.specs.Reading.{packet_of}
use Rattle.roam_wire.specs.declared.code.TheConstants.{ACCESS_ACCEPT}
use Rattle.roam_crypto.specs.declared.packet_values.Hidden.TheVariants.{SaltedStrings}
use Rattle.roam_crypto.specs.PacketAnew.{packet_anew}
use Rattle.roam_forward.specs.Removal.{removed_by}
use Rattle.roam_reply.specs.Returned.{Returning, named, passing}
use Rattle.roam_reply.specs.Shown.{shown}
use Rattle.roam_reply.proofs.PlainLemmas.{can_be-salted, from_key, rehidden_text, plain_text_stays}
use Rattle.roam_reply.proofs.returning.rehide_accept.Goals as goal

-- each attribute can be hidden anew
pub rehide_packet-requires-clause-can_be : goal.rehide_packet-requires-clause-can_be
rehide_packet-requires-clause-can_be c = can_be-salted (packet_of c.args.octets.now).attributes

-- the salted strings of an Access-Accept are
pub returns-then-code-eq-ACCESS_ACCEPT : goal.returns-then-code-eq-ACCESS_ACCEPT
returns-then-code-eq-ACCESS_ACCEPT c =
    let r : Returning = shown c.args.returning.now in
    let accept : (c.args.reply.now.code == ACCESS_ACCEPT) ≡ true =
    eq-eqb c.args.reply.now.code ACCESS_ACCEPT (sym c.code.ensures ∙ c.if-code-eq-ACCESS_ACCEPT.true) in
    c.rehide_packet.ensures
    ∙ ap (λ (secret : List ℕ). packet_text
    (packet_anew SaltedStrings (from_key r) (record { secret = secret; first = c.authenticator.result })
    (packet_of c.args.octets.now))) c.octets.ensures
    ∙ ap (λ (first : List ℕ). packet_text
    (packet_anew SaltedStrings (from_key r) (record { secret = r.client_secret; first = first })
    (packet_of c.args.octets.now))) c.authenticator.ensures
    ∙ rehidden_text r (passing (removed_by c.args.returning.now.removal)
    (named c.args.returning.now.own c.args.request.now c.args.reply.now)) c.args.request.now
    (packet_of c.args.octets.now) c.requires.plain.packet accept

-- any other reply stays
pub returns-else-code-eq-ACCESS_ACCEPT : goal.returns-else-code-eq-ACCESS_ACCEPT
returns-else-code-eq-ACCESS_ACCEPT c =
    let r : Returning = shown c.args.returning.now in
    let other : (c.args.reply.now.code == ACCESS_ACCEPT) ≡ false =
    ne_eqb c.args.reply.now.code ACCESS_ACCEPT (λ e. c.if-code-eq-ACCESS_ACCEPT.false (c.code.ensures ∙ e)) in
    c.requires.plain.text.spelt ∙ plain_text_stays r
    (passing (removed_by c.args.returning.now.removal)
    (named c.args.returning.now.own c.args.request.now c.args.reply.now)) c.args.request.now
    (packet_of c.args.octets.now) c.requires.plain.packet other

use Rattle.std.proofs.Common.{◌+◌, ◌≤◌, inr, length, subst, arith, length-take, length-drop}
use Rattle.roam_crypto.specs.Hasher.{Holds}
use Rattle.roam_crypto.proofs.HashedLemmas.{update_pieces}
use Rattle.roam_crypto.proofs.SealingLemmas.{place_within}
use Rattle.roam_crypto.proofs.message.update_with_packet.Goals as goal

-- the Value stands within the packet
pub octets_before-requires : goal.octets_before-requires
octets_before-requires c =
    let within : c.args.at + 16 ≤ length c.octets-octets.result.now = rw c.octets-octets.ensures.text
    (place_within c.args.at c.args.view.now c.octets-octets.ensures.packet (inr c.requires.one) c.requires.place) in
    omega (arith, within)

pub update_with_field-requires : goal.update_with_field-requires
update_with_field-requires c =
    let within : c.args.at + 16 ≤ length c.octets-octets.result.now = rw c.octets-octets.ensures.text
    (place_within c.args.at c.args.view.now c.octets-octets.ensures.packet (inr c.requires.one) c.requires.place) in
    rw c.octets_before.ensures
    (omega (arith, within, c.requires.place.place, length-take c.args.at c.octets-octets.result.now))

pub update_zeroed-requires : goal.update_zeroed-requires
update_zeroed-requires c =
    let within : c.args.at + 16 ≤ length c.octets-octets.result.now = rw c.octets-octets.ensures.text
    (place_within c.args.at c.args.view.now c.octets-octets.ensures.packet (inr c.requires.one) c.requires.place) in
    rw c.octets_from.ensures (omega (arith, within, length-drop c.args.at c.octets-octets.result.now))

-- the pieces are the packet with that Authenticator and zeros
pub returns : goal.returns
returns c = λ m held.
    let taken = c.update_zeroed.ensures _ (c.update_with_field.ensures m held) in
    let whole = update_pieces m c.args.authenticator c.octets-octets.result.now c.args.at c.args.view.now
    c.octets-octets.ensures.packet c.requires.one c.requires.place c.octets-octets.ensures.text in
    subst (Holds c.update_zeroed.new.hasher) whole (rw (c.octets_before.ensures, c.octets_from.ensures) at taken)

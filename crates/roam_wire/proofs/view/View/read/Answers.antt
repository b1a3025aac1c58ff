use Rattle.std.proofs.Common.{◌≡◌, sym, ◌∙◌, arith, false, IsSome, refl, drop}
use Rattle.roam_wire.specs.Reading.{ReadsAs, HasLength, IsPacketText, packet_of, attributes_of}
use Rattle.roam_wire.proofs.PacketLemmas.{front, IsPacketText-front, ReadsAs-follows}
use Rattle.roam_wire.proofs.ReadingLemmas.{reading-short, reading-bad_length, reading-bad_attribute, reading-ok}
use Rattle.std.proofs.lemmas.Bool.Decides.{nat_tests}
use Rattle.roam_wire.specs.Reading.{has_length as length_fits}
use Rattle.roam_wire.proofs.view.View.read.Goals as goal

-- a packet that is read has a Length that fits
pub returns-then-length-lt20-clause-only : goal.returns-then-length-lt20-clause-only
returns-then-length-lt20-clause-only c = λ p reads.
    let has_length = (ReadsAs-follows c.args.datagram.now p reads).length in
    let low = has_length.at_least_header in
    let high = has_length.at_most_4096 in
    let came = has_length.all_came in
    omega (arith, c.length_at-length.ensures, c.then-length-lt20.either)

-- what stands behind the header is no list of attributes
no_attributes : (c : goal.Then-not-are_attributes) → IsSome (attributes_of (drop 20 (front c.args.datagram.now))) → ⊥
no_attributes c some =
    let here : IsSome (attributes_of c.behind_header.result.now) =
    rw (c.behind_header.ensures, c.front_of-octets.ensures, c.length_at-length.ensures) some in
    absurd (cc (c.if-not-are_attributes.ensures.1 here))

pub returns-then-not-are_attributes-clause-only : goal.returns-then-not-are_attributes-clause-only
returns-then-not-are_attributes-clause-only c = λ p reads.
    absurd (no_attributes c (ReadsAs-follows c.args.datagram.now p reads).attributes)

-- the Length fits
has_length : (c : goal.Then-not-are_attributes) → HasLength c.args.datagram.now
has_length c = record {
  at_least_header = omega (arith, c.length_at-length.ensures);
  at_most_4096 = omega (arith, c.length_at-length.ensures);
  all_came = omega (arith, c.length_at-length.ensures);
}

pub returns-then-not-are_attributes-clause-bad_attribute : goal.returns-then-not-are_attributes-clause-bad_attribute
returns-then-not-are_attributes-clause-bad_attribute c = (
  λ _. (
    omega arith,
    has_length c,
    λ reads. no_attributes c (ReadsAs-follows c.args.datagram.now reads.packet reads.reads).attributes,
  ),
  λ _. refl,
)

-- the front is a packet's octets
front_is_packet : (c : goal.Else-not-are_attributes) → IsPacketText (front c.args.datagram.now)
front_is_packet c =
    let some : IsSome (attributes_of c.behind_header.result.now) = c.if-not-are_attributes.ensures.0 refl in
    let octets : c.front_of-octets.result.now ≡ front c.args.datagram.now = c.front_of-octets.ensures
    ∙ rw c.length_at-length.ensures refl in
    let at_front : IsSome (attributes_of (drop 20 (front c.args.datagram.now))) =
    rw (c.behind_header.ensures, octets) at some in
    let fits : HasLength c.args.datagram.now = record {
      at_least_header = omega (arith, c.length_at-length.ensures);
      at_most_4096 = omega (arith, c.length_at-length.ensures);
      all_came = omega (arith, c.length_at-length.ensures);
    } in
    IsPacketText-front c.args.datagram.now (λ i. omega (arith, c.type_inv.datagram i)) fits at_front

pub invariant_of-result : goal.invariant_of-result
invariant_of-result c = rw (c.front_of-octets.ensures, c.length_at-length.ensures) (front_is_packet c)

-- it is what the datagram reads as
reads_front : (c : goal.Else-not-are_attributes) → ReadsAs c.args.datagram.now (packet_of (front c.args.datagram.now))
reads_front c =
    let whole = front_is_packet c in
    record { has_header = omega arith; packet = whole.packet; front = whole.spelt }

pub returns-clause-packet : goal.returns-clause-packet
returns-clause-packet c = rw (c.front_of-octets.ensures, c.length_at-length.ensures) (reads_front c)

pub returns-clause-only : goal.returns-clause-only
returns-clause-only c = λ p reads.
    rw (c.front_of-octets.ensures, c.length_at-length.ensures) ((ReadsAs-follows c.args.datagram.now p reads).packet)

pub returns-clause-bad_attribute : goal.returns-clause-bad_attribute
returns-clause-bad_attribute c = (
  λ h. absurd (cc h),
  λ h. absurd
      (h.2 (record { packet = packet_of (front c.args.datagram.now); reads = reads_front c })),
)

-- the same as a function
pub returns-then-datagram-lt20-clause-answer : goal.returns-then-datagram-lt20-clause-answer
returns-then-datagram-lt20-clause-answer c = sym (reading-short c.args.datagram.now (omega arith))

pub returns-then-length-lt20-clause-answer : goal.returns-then-length-lt20-clause-answer
returns-then-length-lt20-clause-answer c =
    let bad : length_fits c.args.datagram.now ≡ false =
    grind (arith, nat_tests, c.length_at-length.ensures, c.then-length-lt20.either) in
    sym (reading-bad_length c.args.datagram.now (omega arith) bad)

pub returns-then-not-are_attributes-clause-answer : goal.returns-then-not-are_attributes-clause-answer
returns-then-not-are_attributes-clause-answer c =
    sym (reading-bad_attribute c.args.datagram.now (omega arith) (has_length c) (no_attributes c))

pub returns-clause-answer : goal.returns-clause-answer
returns-clause-answer c =
    let some : IsSome (attributes_of c.behind_header.result.now) = c.if-not-are_attributes.ensures.0 refl in
    let octets : c.front_of-octets.result.now ≡ front c.args.datagram.now = c.front_of-octets.ensures
    ∙ rw c.length_at-length.ensures refl in
    let at_front : IsSome (attributes_of (drop 20 (front c.args.datagram.now))) =
    rw (c.behind_header.ensures, octets) at some in
    let fits : HasLength c.args.datagram.now = record {
      at_least_header = omega (arith, c.length_at-length.ensures);
      at_most_4096 = omega (arith, c.length_at-length.ensures);
      all_came = omega (arith, c.length_at-length.ensures);
    } in
    rw octets (sym (reading-ok c.args.datagram.now (omega arith) fits at_front))

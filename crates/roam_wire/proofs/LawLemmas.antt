-- What other crates cite of this one: its laws, and what a packet's octets are.
pub use Rattle.roam_wire.proofs.OctetLemmas.{AreOctets-packet_text}
pub use Rattle.roam_wire.proofs.PacketLemmas.{packet_of-packet_text, IsPacketText-packet_text, length-packet_text, ReadsAs-packet_text, ReadsAs-octets}
pub use Rattle.roam_wire.proofs.BuildingLemmas.{AreTextOf, AreTextOf-packet_text}
use Rattle.std.proofs.Common.{◌≡◌, ℕ, true, List, length, drop, Option, Some, None, IsSome, refl, ap, ◌∙◌, subst, inl, inr, arith}
use Rattle.std.specs.Prelude.{nat_lt, Result, Ok, Err}
use Rattle.std.specs.Option.{option_map_or}
use Rattle.std.proofs.lemmas.Bool.{cases_Bool}
use Rattle.std.proofs.lemmas.Bool.Decides.{nat_tests}
use Rattle.roam_wire.specs.Packet.{AreOctets, Attribute, Packet}
use Rattle.roam_wire.specs.Reading.{HasLength, ReadsAs, attributes_of, front_of, has_length, packet_of, reading}
use Rattle.roam_wire.specs.Laws.{ReadingIsRight}
use Rattle.roam_wire.specs.declared.refusal.Refusal.{Refusal}
use Rattle.roam_wire.specs.declared.refusal.Refusal.TheVariants as refusal
use Rattle.roam_wire.proofs.PacketLemmas.{IsPacketText-front, ReadsAs-follows}
use Rattle.roam_wire.proofs.ReadingLemmas.{reading-ok}

test_fits : (d : List ℕ) → has_length d ≡ true → HasLength d
test_fits d h = record {
  at_least_header = grind (arith, nat_tests, h);
  at_most_4096 = grind (arith, nat_tests, h);
  all_came = grind (arith, nat_tests, h);
}

-- the answer, whatever attributes there are
abbrev answer : Packet → List Attribute → Result Packet Refusal
answer p all = Ok p

some_answered : (o : Option (List Attribute)) (q p : Packet)
    → option_map_or (answer q) o (Err refusal.BadAttribute) ≡ Ok p → IsSome o × (q ≡ p)
some_answered None q p h = absurd (cc h)
some_answered (Some all) q p h = (refl, cc h)

-- a datagram whose front is a packet's octets reads as that packet
front_reads : (d : List ℕ) → AreOctets d → HasLength d → IsSome (attributes_of (drop 20 (front_of d))) →
    ReadsAs d (packet_of (front_of d))
front_reads d octets fits some =
    let text = IsPacketText-front d octets fits some in
    let low = fits.at_least_header in
    let came = fits.all_came in
    record { has_header = omega arith; packet = text.packet; front = text.spelt }

reads : (d : List ℕ) (p : Packet) → AreOctets d → reading d ≡ Ok p → ReadsAs d p
unfolding reading
reads d p octets h =
    elim (cases_Bool (nat_lt (length d) 20)) [
      | inl short ↦ absurd (let k : Err refusal.Short ≡ Ok p = rw short at h in cc)
      | inr long ↦ elim (cases_Bool (has_length d)) [
        | inl fits ↦
            let q : Packet = packet_of (front_of d) in
            let k : option_map_or (answer q) (attributes_of (drop 20 (front_of d))) (Err refusal.BadAttribute)
            ≡ Ok p = rw (long, fits) at h in
            let some = some_answered (attributes_of (drop 20 (front_of d))) q p k in
            subst (ReadsAs d) some.1 (front_reads d octets (test_fits d fits) some.0)
        | inr bad ↦ absurd (let k : Err refusal.BadLength ≡ Ok p = rw (long, bad) at h in cc)
      ]
    ]

pub reading_is_right : ReadingIsRight
reading_is_right d p octets = (
  reads d p octets,
  λ h.
      let follows = ReadsAs-follows d p h in
      reading-ok d h.has_header follows.length follows.attributes ∙ ap (λ (x : Packet). Ok x) follows.packet,
)

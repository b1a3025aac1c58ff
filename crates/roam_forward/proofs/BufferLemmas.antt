-- A request's octets behind those of a buffer, and what is written over them.
use Rattle.std.proofs.Common.{◌≡◌, ℕ, ◌+◌, ◌-◌, ◌≤◌, List, [], ◌++◌, length, take, drop, replicate, subst, refl, sym, ap, ◌∙◌, arith, length-append, length-drop, append_assoc}
use Rattle.std.proofs.lemmas.List.{take_at, drop_at, take_all, drop_all, append-nil, length-take, length-replicate}
use Rattle.roam_wire.specs.Packet.{Packet, IsPacket, packet_text, packet_length}
use Rattle.roam_wire.specs.Reading.{IsPacketText, packet_of}
use Rattle.roam_wire.proofs.LawLemmas.{packet_of-packet_text, IsPacketText-packet_text, length-packet_text}
use Rattle.roam_forward.specs.Forwarded.{forwarded_length, CanBeForwarded}
use Rattle.roam_forward.specs.Rewriting.{IsRewritable}

-- all octets from the start on
abbrev pub from_start : ℕ → List ℕ → List ℕ
from_start start all = take (length all - start) (drop start all)

-- they are what stands behind the buffer's own
pub from_start-is : (start : ℕ) (all old rest : List ℕ) → all ≡ old ++ rest → start ≡ length old →
    from_start start all ≡ rest
from_start-is start all old rest is start-is =
    let size : length (drop start all) ≤ length all - start = omega (arith, length-drop start all) in
    take_all (length all - start) (drop start all) size
    ∙ ap (drop start) is
    ∙ drop_at old rest start (sym start-is)

-- what was written from the start on stands behind the buffer's own octets
pub written_back : (start len : ℕ) (all old rest written items : List ℕ) → all ≡ old ++ rest → start ≡ length old →
    length written ≡ length rest → len ≡ length all →
    take len ((take start all ++ (written ++ drop (length all - start) (drop start all)))
    ++ drop (length (take start all ++ (written ++ drop (length all - start) (drop start all)))) items) ≡ old ++ written
written_back start len all old rest written items is start-is size len-is =
    let tail : List ℕ = drop (length all - start) (drop start all) in
    let whole : List ℕ = take start all ++ (written ++ tail) in
    let front : take start all ≡ old = ap (take start) is ∙ take_at old rest start (sym start-is) in
    let short : length (drop start all) ≤ length all - start = omega (arith, length-drop start all) in
    let gone : tail ≡ [] = drop_all (length all - start) (drop start all) short in
    let whole-is : whole ≡ old ++ written =
    ap (λ (t : List ℕ). t ++ (written ++ tail)) front
    ∙ ap (λ (t : List ℕ). old ++ (written ++ t)) gone
    ∙ ap (λ (t : List ℕ). old ++ t) (append-nil written) in
    let as_long : length whole ≡ len =
    omega (arith, ap length whole-is, length-append old written, ap length is, length-append old rest, size, len-is) in
    take_at whole (drop (length whole) items) len as_long ∙ whole-is

-- what was appended, one after another
pub appended_twice : (old text zeros once twice all : List ℕ) → once ≡ old ++ text → twice ≡ once ++ zeros →
    all ≡ twice → all ≡ old ++ (text ++ zeros)
appended_twice old text zeros once twice all first second same =
    same ∙ second ∙ ap (λ (t : List ℕ). t ++ zeros) first ∙ append_assoc old text zeros

-- a buffer to which a request's octets were appended, and zeros up to the size of the forwarded packet
pub record HoldsRequest (q : Packet) (start size : ℕ) (old text all : List ℕ) : Type 0 where
  pub all-is : all ≡ old ++ (text ++ replicate (size - length text) 0)
  pub start-is : start ≡ length old
  pub text-is : text ≡ packet_text q
  pub packet : IsPacket q
  pub size-is : size ≡ forwarded_length q
  pub longer : packet_length q + 10 ≤ size

-- the packet that is read there is the request
pub packet_there : (q : Packet) (start size : ℕ) (old text all : List ℕ) → HoldsRequest q start size old text all →
    take (length text) (from_start start all) ≡ packet_text q
packet_there q start size old text all h =
    let zeros : List ℕ = replicate (size - length text) 0 in
    ap (take (length text)) (from_start-is start all old (text ++ zeros) h.all-is h.start-is)
    ∙ take_at text zeros (length text) refl
    ∙ h.text-is

pub packet_of-there : (q : Packet) (start size : ℕ) (old text all : List ℕ) → HoldsRequest q start size old text all
    → packet_of (take (length text) (from_start start all)) ≡ q
packet_of-there q start size old text all h =
    ap packet_of (packet_there q start size old text all h) ∙ packet_of-packet_text q h.packet

-- as many octets stand there as the forwarded packet has
pub length-there : (q : Packet) (start size : ℕ) (old text all : List ℕ) → HoldsRequest q start size old text all →
    length (from_start start all) ≡ size
length-there q start size old text all h =
    let zeros : List ℕ = replicate (size - length text) 0 in
    let more = h.longer in
    omega (
      arith,
      ap length (from_start-is start all old (text ++ zeros) h.all-is h.start-is),
      length-append text zeros,
      length-replicate {A = ℕ} (size - length text) 0,
      ap length h.text-is,
      length-packet_text q h.packet,
      more,
    )

-- so they can be rewritten
pub can_be_rewritten : (q : Packet) (start size : ℕ) (old text all : List ℕ) → HoldsRequest q start size old text all
    → CanBeForwarded q → IsRewritable (length text) (from_start start all)
can_be_rewritten q start size old text all h can =
    let there = packet_there q start size old text all h in
    let same = packet_of-there q start size old text all h in
    record {
      packet = subst IsPacketText (sym there) (IsPacketText-packet_text q h.packet);
      can_be_forwarded = subst CanBeForwarded (sym same) can;
      size = length-there q start size old text all h ∙ h.size-is ∙ ap forwarded_length (sym same);
    }

-- the request that is rewritten ends within the octets
pub rewritten_within : (len : ℕ) (octets : List ℕ) → IsRewritable len octets → len ≤ length octets
unfolding forwarded_length
rewritten_within len octets h =
    omega (
      arith,
      h.size,
      ap length h.packet.spelt,
      length-packet_text (packet_of (take len octets)) h.packet.packet,
      length-take len octets,
    )

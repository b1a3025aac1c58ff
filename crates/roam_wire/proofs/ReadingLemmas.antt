-- What reading a datagram answers, by the tests that it makes.
use Rattle.std.proofs.Common.{◌≡◌, ◌<◌, ◌≤◌, ℕ, true, false, List, length, drop, Option, Some, None, IsSome, refl, arith}
use Rattle.std.specs.Prelude.{nat_lt, Result, Ok, Err}
use Rattle.std.specs.Option.{option_map_or}
use Rattle.std.proofs.lemmas.Bool.Decides.{nat_tests}
use Rattle.roam_wire.specs.Packet.{Attribute, Packet}
use Rattle.roam_wire.specs.Reading.{HasLength, has_length, attributes_of, packet_of, front_of, reading}
use Rattle.roam_wire.specs.declared.refusal.Refusal.{Refusal}
use Rattle.roam_wire.specs.declared.refusal.Refusal.TheVariants as refusal

pub reading-short : (d : List ℕ) → length d < 20 → reading d ≡ Err refusal.Short
unfolding reading
reading-short d short =
    let test : nat_lt (length d) 20 ≡ true = grind (arith, nat_tests) in
    rw test refl

-- a header came
header_came : (d : List ℕ) → 20 ≤ length d → nat_lt (length d) 20 ≡ false
header_came d enough = grind (arith, nat_tests)

pub reading-bad_length : (d : List ℕ) → 20 ≤ length d → has_length d ≡ false → reading d ≡ Err refusal.BadLength
unfolding reading
reading-bad_length d enough bad = rw (header_came d enough, bad) refl

pub has_length-true : (d : List ℕ) → HasLength d → has_length d ≡ true
has_length-true d h =
    let low = h.at_least_header in
    let high = h.at_most_4096 in
    let came = h.all_came in
    grind (arith, nat_tests)

-- where there are no attributes behind the header
none_some : (o : Option (List Attribute)) → (IsSome o → ⊥) → o ≡ None
none_some None h = refl
none_some (Some all) h = absurd (h refl)

pub reading-bad_attribute : (d : List ℕ) → 20 ≤ length d → HasLength d →
    (IsSome (attributes_of (drop 20 (front_of d))) → ⊥) → reading d ≡ Err refusal.BadAttribute
unfolding reading
reading-bad_attribute d enough fits none =
    rw (header_came d enough, has_length-true d fits, none_some (attributes_of (drop 20 (front_of d))) none) refl

-- the answer, whatever attributes there are
abbrev answer : Packet → List Attribute → Result Packet Refusal
answer p all = Ok p

-- where there are
some_mapped : (o : Option (List Attribute)) (p : Packet) → IsSome o →
    option_map_or (answer p) o (Err refusal.BadAttribute) ≡ Ok p
some_mapped None p h = absurd (cc)
some_mapped (Some all) p h = refl

pub reading-ok : (d : List ℕ) → 20 ≤ length d → HasLength d → IsSome (attributes_of (drop 20 (front_of d))) →
    reading d ≡ Ok (packet_of (front_of d))
unfolding reading
reading-ok d enough fits some =
    rw (header_came d enough, has_length-true d fits)
    (some_mapped (attributes_of (drop 20 (front_of d))) (packet_of (front_of d)) some)

-- What stands last in a line or in a place has no separator in it.
use Rattle.std.proofs.Common.{◌≡◌, ℕ, ◌-◌, ◌^◌, ◌⊎◌, inl, inr, true, false, Bool, cond, eqb, List, [], ◌∷◌, length, get_or, Option, Some, None, Result, Ok, Err, refl, sym, ap, arith}
use Rattle.std.proofs.lemmas.Bool.Decides.{nat_tests}
use Rattle.std.proofs.lemmas.List.Splits.{length-slice_split, slice_split_none}
use Rattle.std.proofs.lemmas.Slice.Eq.{bytes_eq-Decides}
use Rattle.std.specs.List.{AllPass}
use Rattle.std.specs.Result.{result_ok}
use Rattle.std.specs.Prelude.{codes, IsOk, IsTrue, ◌↔◌, ◌%◌}
use Rattle.hex.specs.Hex.{decode_of, is_hex_digit}
use Rattle.hex.specs.declared.error.FromHexError.{FromHexError}
use Rattle.hex.proofs.HexLemmas.{decode_of-digits, decode_of-ok}
use Rattle.roam_address.specs.Texts.{endpoint_in}
use Rattle.roam_conf.specs.Texts.{parts}
use Rattle.roam_conf.specs.declared.place.Place.{Place}
use Rattle.roam_address.specs.declared.endpoint.Endpoint.{Endpoint}
use Rattle.roam_conf.proofs.TextLemmas.{decimal_part, one_part}
use Rattle.roam_sim.specs.Script.{times_in, times_of, with_seconds, index_in, moment_in, nth_in, place_in, place_of, datagram_in, realm_place, arrival, arrival_of, tick, tick_of}

-- a text has a part at least
parts-some : (separator : ℕ) (text : List ℕ) → parts separator text ≡ [] → ⊥
unfolding parts
parts-some separator text is =
    let none : length (parts separator text) ≡ 0 = ap (λ (l : List (List ℕ)). length l) is in
    omega (arith, none, length-slice_split (λ octet. eqb octet separator) text)

no_nth : (socket : List ℕ) (realm : Option ℕ) → realm_place socket realm None ≡ None
no_nth socket None = refl
no_nth socket (Some r) = refl

place_of_at : (socket realm number : List ℕ) (nth : Option ℕ) (rest : List (List ℕ)) → nth_in number ≡ nth →
    parts 58 number ≡ rest → place_of (socket ∷ realm ∷ rest) ≡ realm_place socket (index_in realm) nth
place_of_at socket realm number (Some n) rest is cut =
    rw (← cut, decimal_part 58 1 (2 ^ 16 - 1) number n refl is, is) refl
place_of_at socket realm number None [] is cut = absurd (parts-some 58 number cut)
place_of_at socket realm number None (x ∷ []) is cut = rw (one_part 58 number x cut, is) refl
place_of_at socket realm number None (x ∷ y ∷ more) is cut = sym (no_nth socket _)

-- what follows a realm's index and a colon says which of several sockets it is, or no place is read
pub place_of-parts : (socket realm number : List ℕ) →
    place_of (socket ∷ realm ∷ parts 58 number) ≡ realm_place socket (index_in realm) (nth_in number)
place_of-parts socket realm number = place_of_at socket realm number _ _ refl refl

no_seconds : (now : Option ℕ) → with_seconds now None ≡ None
no_seconds None = refl
no_seconds (Some x) = refl

times_of_at : (now seconds : List ℕ) (number : Option ℕ) (rest : List (List ℕ)) → moment_in seconds ≡ number →
    parts 47 seconds ≡ rest → times_of (now ∷ rest) ≡ with_seconds (moment_in now) number
times_of_at now seconds (Some n) rest is cut =
    rw (← cut, decimal_part 47 0 (2 ^ 64 - 1) seconds n refl is, is) refl
times_of_at now seconds None [] is cut = absurd (parts-some 47 seconds cut)
times_of_at now seconds None (x ∷ []) is cut = rw (one_part 47 seconds x cut, is) refl
times_of_at now seconds None (x ∷ y ∷ more) is cut = sym (no_seconds _)

-- what follows the slash is a number of seconds, or no times are read
pub times_of-parts : (now seconds : List ℕ) →
    times_of (now ∷ parts 47 seconds) ≡ with_seconds (moment_in now) (moment_in seconds)
times_of-parts now seconds = times_of_at now seconds _ _ refl refl

no_shard : (now : Option ℕ) → tick now None ≡ None
no_shard None = refl
no_shard (Some x) = refl

tick_of_at : (now shard : List ℕ) (number : Option ℕ) (rest : List (List ℕ)) → index_in shard ≡ number →
    parts 32 shard ≡ rest → tick_of (now ∷ rest) ≡ tick (moment_in now) number
tick_of_at now shard (Some n) rest is cut = rw (← cut, decimal_part 32 0 (2 ^ 16 - 1) shard n refl is, is) refl
tick_of_at now shard None [] is cut = sym (no_shard _)
tick_of_at now shard None (x ∷ []) is cut = rw (one_part 32 shard x cut, is) refl
tick_of_at now shard None (x ∷ y ∷ more) is cut = sym (no_shard _)

-- what follows the moment of a tick is the index of a shard, or no tick is read
pub tick_of-parts : (now shard : List ℕ) → tick_of (now ∷ parts 32 shard) ≡ tick (moment_in now) (index_in shard)
tick_of-parts now shard = tick_of_at now shard _ _ refl refl

-- a hexadecimal digit is no space
digit_apart : (octet : ℕ) → is_hex_digit octet ≡ true → eqb octet 32 ≡ false
digit_apart octet digit = grind (arith, nat_tests)

digits_part : (text octets : List ℕ) → decode_of text ≡ Ok octets → parts 32 text ≡ text ∷ []
unfolding parts
digits_part text octets decodes =
    let digits : AllPass is_hex_digit text = (decode_of-ok text octets decodes).1 in
    slice_split_none _ text (λ k d within. digit_apart (get_or text k d) (digits k d within))

hyphen_part : parts 32 (codes "-") ≡ codes "-" ∷ []
unfolding parts
hyphen_part = refl

result_ok-some : (r : Result (List ℕ) FromHexError) (octets : List ℕ) → result_ok r ≡ Some octets → r ≡ Ok octets
result_ok-some (Ok x) octets is = cc
result_ok-some (Err e) octets is = cc

-- a text that passes the test is the hyphen, and the datagram of any other is decoded
datagram_at : (text octets : List ℕ) (is_hyphen is_sized : Bool) →
    cond is_hyphen (Some []) (cond is_sized (result_ok (decode_of text)) None) ≡ Some octets → (is_hyphen ≡ true)
    ⊎ (decode_of text ≡ Ok octets)
datagram_at text octets true is_sized is = inl refl
datagram_at text octets false true is = inr (result_ok-some (decode_of text) octets is)
datagram_at text octets false false is = cc

-- a datagram is one field
datagram_part : (text octets : List ℕ) → datagram_in text ≡ Some octets → parts 32 text ≡ text ∷ []
unfolding datagram_in
datagram_part text octets is =
    elim (datagram_at text octets _ _ is) [
      | inl hyphen ↦
          let same : text ≡ codes "-" = (bytes_eq-Decides text (codes "-")).0 hyphen in
          rw same hyphen_part
      | inr decodes ↦ digits_part text octets decodes
    ]

no_octets : (kept : Bool) (now : Option (ℕ × Option ℕ)) (at : Option Place) (from : Option Endpoint) →
    arrival kept now at from None ≡ None
no_octets kept None at from = refl
no_octets kept (Some x) None from = refl
no_octets kept (Some x) (Some y) None = refl
no_octets kept (Some x) (Some y) (Some z) = refl

arrival_of_at : (kept : Bool) (now at from text : List ℕ) (octets : Option (List ℕ)) (rest : List (List ℕ)) →
    datagram_in text ≡ octets → parts 32 text ≡ rest →
    arrival_of kept (now ∷ at ∷ from ∷ rest) ≡ arrival kept (times_in now) (place_in at) (endpoint_in from) octets
arrival_of_at kept now at from text (Some octets) rest is cut = rw (← cut, datagram_part text octets is, is) refl
arrival_of_at kept now at from text None [] is cut = sym (no_octets kept _ _ _)
arrival_of_at kept now at from text None (x ∷ []) is cut = rw (one_part 32 text x cut, is) refl
arrival_of_at kept now at from text None (x ∷ y ∷ more) is cut = sym (no_octets kept _ _ _)

-- what follows the third field of an arrival is a datagram, or no arrival is read
pub arrival_of-parts : (kept : Bool) (now at from text : List ℕ) →
    arrival_of kept (now ∷ at ∷ from ∷ parts 32 text)
    ≡ arrival kept (times_in now) (place_in at) (endpoint_in from) (datagram_in text)
arrival_of-parts kept now at from text = arrival_of_at kept now at from text _ _ refl refl

decodes_from_some : (text octets : List ℕ) → decode_of text ≡ Ok octets → IsOk (decode_of text)
decodes_from_some text octets is = rw is refl

ok_value : (r : Result (List ℕ) FromHexError) → IsOk r → (octets : List ℕ) × (r ≡ Ok octets)
ok_value (Ok octets) is = (octets, refl)
ok_value (Err e) is = cc is

-- an even number of digits decodes, and nothing else does
pub even_digits : (text : List ℕ) (is_digits : Bool) → length text % 2 ≡ 0 →
    (IsTrue is_digits ↔ AllPass is_hex_digit text) → IsTrue is_digits ↔ IsOk (decode_of text)
even_digits text is_digits even is = (
  (λ yes. let r = decode_of-digits text even (is.0 yes) in decodes_from_some text r.0 r.1),
  (λ decodes. let r = ok_value (decode_of text) decodes in is.1 ((decode_of-ok text r.0 r.1).1)),
)

pub ruleset last_fields = (place_of-parts, times_of-parts, tick_of-parts, arrival_of-parts)

-- The prefixes of an index, noted one after the other.
use Rattle.std.proofs.Common.{◌≡◌, ◌≢◌, ◌⊎◌, ℕ, zero, suc, ◌+◌, ◌-◌, ◌<◌, ◌≤◌, Bool, true, false, cond, not, List, [], ◌∷◌, ◌++◌, map, take, set, length, get_or, slice_get, position, Option, Some, None, refl, sym, ap, ◌∙◌, subst, arith, inl, inr, true≢false, take_all}
use Rattle.std.proofs.lemmas.Bool.{cases_eq, or_parts}
use Rattle.indexmap.specs.IndexSet.{insert_key}
use Rattle.std.proofs.lemmas.List.{length-set, get_or-set_same, get_or-set_other, map-append, take_more}
use Rattle.std.proofs.lemmas.List.Folds.{Any-from_list_any}
use Rattle.std.proofs.lemmas.Option.{same_Some, none-some, slice_get_within, slice_get-get_or}
use Rattle.std.specs.List.{list_any}
use Rattle.std.specs.Net.Addr.{is_ipv6}
use Rattle.roam_address.specs.declared.leading.Leading.{Leading}
use Rattle.roam_address.specs.declared.prefix.Prefix.{Prefix}
use Rattle.roam_address.specs.Addresses.{ip_of}
use Rattle.roam_address.specs.Keys.{slot, is_marked, AreMarked}
use Rattle.roam_address.specs.Longest.{HasTwice}
use Rattle.roam_address.specs.Prefixes.{network_of, length_of, leading_of}
use Rattle.roam_address.proofs.LongestLemmas.{key_eq, key_same, key_itself, key_at, at_key, found_key}
use Rattle.roam_address.proofs.PrefixLemmas.{width_small}

-- ## Prefixes one after the other

take_get : (xs : List Prefix) (i k : ℕ) (q : Prefix) → slice_get (take i xs) k ≡ Some q →
    (k < i) × (slice_get xs k ≡ Some q)
take_get xs zero k q at = absurd (none-some q at)
take_get [] (suc i) k q at = absurd (none-some q at)
take_get (x ∷ xs) (suc i) zero q at = (omega arith, at)
take_get (x ∷ xs) (suc i) (suc k) q at =
    let rest = take_get xs i k q at in
    (omega (arith, rest.0), rest.1)

get_take : (xs : List Prefix) (i k : ℕ) (q : Prefix) → k < i → slice_get xs k ≡ Some q →
    slice_get (take i xs) k ≡ Some q
get_take xs zero k q below at = absurd (omega (arith, below))
get_take [] (suc i) k q below at = absurd (none-some q at)
get_take (x ∷ xs) (suc i) zero q below at = at
get_take (x ∷ xs) (suc i) (suc k) q below at = get_take xs i k q (omega (arith, below)) at

-- a key that is there already
pub found_twice : (prefixes : List Prefix) (i : ℕ) (p : Prefix) (keys : List Leading) →
    keys ≡ map leading_of (take i prefixes) → slice_get prefixes i ≡ Some p →
    list_any (key_eq (leading_of p)) keys ≡ true → HasTwice prefixes
found_twice prefixes i p keys stands at there =
    let key = leading_of p in
    let any = Any-from_list_any (key_eq key) keys there in
    let here : slice_get keys any.0 ≡ Some any.1 =
    slice_get-get_or keys any.0 any.1 any.2 ∙ ap (λ k. Some k) any.3 in
    let one = key_at (take i prefixes) any.0 any.1
    (ap (λ (l : List Leading). slice_get l any.0) (sym stands) ∙ here) in
    let before = take_get prefixes i any.0 one.0 one.1 in
    record {
      first = any.0;
      second = i;
      apart = before.0;
      one = one.0;
      other = p;
      one_there = before.1;
      other_there = at;
      same = one.2 ∙ sym (key_same key any.1 any.4);
    }

absent : (keys : List Leading) (key x : Leading) (place : ℕ) → list_any (key_eq key) keys ≡ false →
    slice_get keys place ≡ Some x → x ≢ key
absent [] key x place none at same = none-some x at
absent (y ∷ ys) key x zero none at same =
    let is : y ≡ key = same_Some y x at ∙ same in
    true≢false (sym (ap (key_eq key) is ∙ key_itself key) ∙ (or_parts (key_eq key y) (list_any (key_eq key) ys) none).0)
absent (y ∷ ys) key x (suc place) none at same =
    absent ys key x place (or_parts (key_eq key y) (list_any (key_eq key) ys) none).1 at same

-- no two of the first prefixes are the same
abbrev pub AreApart : List Prefix → ℕ → Type 0
AreApart prefixes count =
    (first second : ℕ) (one other : Prefix) → first < second → second < count → slice_get prefixes first ≡ Some one →
    slice_get prefixes second ≡ Some other → leading_of one ≢ leading_of other

pub one_apart : (prefixes : List Prefix) (i : ℕ) (p : Prefix) (keys : List Leading) →
    keys ≡ map leading_of (take i prefixes) → slice_get prefixes i ≡ Some p →
    list_any (key_eq (leading_of p)) keys ≡ false → AreApart prefixes i → AreApart prefixes (i + 1)
one_apart prefixes i p keys stands at none apart first second one other before below one_there other_there same =
    elim (cases_eq second i) [
      | inl last ↦ (
          let is : other ≡ p = same_Some other p (sym other_there ∙ ap (slice_get prefixes) last ∙ at) in
          let key : leading_of one ≡ leading_of p = same ∙ ap leading_of is in
          let early : first < i = omega (arith, before, last) in
          absent keys (leading_of p) (leading_of one) first none
          (ap (λ (l : List Leading). slice_get l first) stands
          ∙ at_key (take i prefixes) first one (get_take prefixes i first one early one_there)) key)
      | inr earlier ↦ apart first second one other before (omega (arith, below, earlier)) one_there other_there same
    ]

pub none_apart : (prefixes : List Prefix) → AreApart prefixes 0
none_apart prefixes first second one other before below = absurd (omega (arith, below))

pub all_apart : (prefixes : List Prefix) (count : ℕ) → length prefixes ≤ count → AreApart prefixes count →
    ¬ (HasTwice prefixes)
all_apart prefixes count all apart h =
    apart h.first h.second h.one h.other h.apart
    (omega (arith, all, slice_get_within prefixes h.second h.other h.other_there)) h.one_there h.other_there h.same

-- ## Marks

pub none_marked : (marks : List Bool) → AreMarked marks []
none_marked marks place key at = absurd (none-some key at)

snoc_get : (keys : List Leading) (key k : Leading) (place : ℕ) → slice_get (keys ++ key ∷ []) place ≡ Some k →
    (slice_get keys place ≡ Some k) ⊎ (k ≡ key)
snoc_get [] key k zero at = inr (sym (same_Some key k at))
snoc_get [] key k (suc place) at = absurd (none-some k at)
snoc_get (y ∷ ys) key k zero at = inl at
snoc_get (y ∷ ys) key k (suc place) at = snoc_get ys key k place at

stays_marked : (marks : List Bool) (i j : ℕ) → i < length marks → get_or marks j false ≡ true →
    get_or (set marks i true) j false ≡ true
stays_marked marks i j inside marked =
    elim (cases_eq j i) [
      | inl here ↦ rw here (get_or-set_same marks i true false inside)
      | inr other ↦ get_or-set_other marks i j true false other ∙ marked
    ]

pub one_marked : (marks : List Bool) (keys : List Leading) (key : Leading) →
    slot key.is_ipv6 key.length < length marks → AreMarked marks keys →
    AreMarked (set marks (slot key.is_ipv6 key.length) true) (keys ++ key ∷ [])
one_marked marks keys key inside marked place k at =
    let i = slot key.is_ipv6 key.length in
    elim (snoc_get keys key k place at) [
      | inl there ↦ stays_marked marks i (slot k.is_ipv6 k.length) inside (marked place k there)
      | inr new ↦ ap (λ (x : Leading). get_or (set marks i true) (slot x.is_ipv6 x.length) false) new
          ∙ get_or-set_same marks i true false inside
    ]

-- a key whose length isn't marked has no place
pub not_marked : (marks : List Bool) (keys : List Leading) (key : Leading) → AreMarked marks keys →
    is_marked marks key.is_ipv6 key.length ≡ false → position (key_eq key) keys ≡ None
not_marked marks keys key marked off = of_place (position (key_eq key) keys) refl
  where
    of_place : (found : Option ℕ) → position (key_eq key) keys ≡ found → position (key_eq key) keys ≡ None
    of_place None is = is
    of_place (Some place) is = absurd (true≢false (sym (marked place key (found_key keys key place is)) ∙ off))

pub slot_fits : (kind : Bool) (length : ℕ) → length ≤ 128 → slot kind length < 162
slot_fits true length small = omega (arith, small)
slot_fits false length small = omega (arith, small)

-- ## What holds in the loops

-- the first prefixes are noted, and no two of them are the same
pub record IsNoted (prefixes : List Prefix) (count : ℕ) (keys : List Leading) (marks : List Bool) : Type 0 where
  pub stands : keys ≡ map leading_of (take count prefixes)
  pub apart : AreApart prefixes count
  pub marked : AreMarked marks keys
  pub long : length marks ≡ 162

pub noted_none : (prefixes : List Prefix) (keys : List Leading) (marks : List Bool) → keys ≡ [] →
    length marks ≡ 162 → IsNoted prefixes 0 keys marks
noted_none prefixes keys marks none long = record {
  stands = none;
  apart = none_apart prefixes;
  marked = subst (AreMarked marks) (sym none) (none_marked marks);
  long = long;
}

not_added : (b : Bool) → true ≡ not b → b ≡ false
not_added true is = is
not_added false is = refl

added_not : (b : Bool) → false ≡ not b → b ≡ true
added_not true is = refl
added_not false is = is

-- one more prefix
module _ (prefixes : List Prefix) (i : ℕ) (p : Prefix) (keys : List Leading) (marks : List Bool)
    (noted : IsNoted prefixes i keys marks) (within : i < length prefixes) (is : p ≡ get_or prefixes i p) where
  at_place : slice_get prefixes i ≡ Some p
  at_place = slice_get-get_or prefixes i p within ∙ ap (λ q. Some q) (sym is)

  noted_own : (new : List Leading) → list_any (key_eq (leading_of p)) keys ≡ false →
      new ≡ insert_key key_eq keys (leading_of p) →
      IsNoted prefixes (i + 1) new (set marks (slot (leading_of p).is_ipv6 (length_of p)) true)
  noted_own new none inserted =
      let key = leading_of p in
      let small : length_of p ≤ 128 = omega (arith, p.fits, width_small (ip_of (network_of p))) in
      let last : new ≡ keys ++ key ∷ [] = inserted ∙ ap (λ b. cond b keys (keys ++ key ∷ [])) none in
      let front : take (i + 1) prefixes ≡ take i prefixes ++ p ∷ [] =
      take_more prefixes i p within ∙ ap (λ q. take i prefixes ++ q ∷ []) (sym is) in
      let inside : slot key.is_ipv6 key.length < length marks =
      omega (arith, noted.long, slot_fits key.is_ipv6 key.length small) in
      record {
        stands = last ∙ ap (λ (l : List Leading). l ++ key ∷ []) noted.stands
            ∙ sym (map-append leading_of (take i prefixes) (p ∷ [])) ∙ ap (map leading_of) (sym front);
        apart = one_apart prefixes i p keys noted.stands at_place none noted.apart;
        marked = subst (AreMarked (set marks (slot key.is_ipv6 key.length) true)) (sym last)
            (one_marked marks keys key inside noted.marked);
        long = length-set marks (slot key.is_ipv6 key.length) true ∙ noted.long;
      }

  pub noted_next : (key : Leading) (new : List Leading) (added : Bool) → key ≡ leading_of p →
      added ≡ not (list_any (key_eq key) keys) → added ≡ true → new ≡ insert_key key_eq keys key →
      IsNoted prefixes (i + 1) new (set marks (slot key.is_ipv6 key.length) true)
  noted_next key new added own says yes' inserted =
      let none = not_added (list_any (key_eq key) keys) (sym yes' ∙ says) in
      let same = noted_own new (ap (λ (k : Leading). list_any (key_eq k) keys) (sym own) ∙ none)
      (inserted ∙ ap (insert_key key_eq keys) own) in
      subst (λ (k : Leading). IsNoted prefixes (i + 1) new (set marks (slot k.is_ipv6 k.length) true)) (sym own) same

  pub noted_twice : (key : Leading) (added : Bool) → key ≡ leading_of p →
      added ≡ not (list_any (key_eq key) keys) → added ≡ false → HasTwice prefixes
  noted_twice key added own says no' =
      let there = added_not (list_any (key_eq key) keys) (sym no' ∙ says) in
      found_twice prefixes i p keys noted.stands at_place
      (ap (λ (k : Leading). list_any (key_eq k) keys) (sym own) ∙ there)

-- all of them
pub noted_all : (prefixes : List Prefix) (count : ℕ) (keys : List Leading) (marks : List Bool) →
    IsNoted prefixes count keys marks → length prefixes ≤ count →
    (keys ≡ map leading_of prefixes) × (¬ (HasTwice prefixes))
noted_all prefixes count keys marks noted all =
    (noted.stands ∙ ap (map leading_of) (take_all count prefixes all), all_apart prefixes count all noted.apart)

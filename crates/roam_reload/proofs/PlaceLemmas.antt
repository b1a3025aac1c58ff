-- An endpoint of the broker's own is at one place: no two of a configuration's own places are at one endpoint.
use Rattle.std.proofs.Common.{◌≡◌, ◌⊎◌, ℕ, zero, suc, Bool, true, false, not, ◌||◌, List, [], ◌∷◌, ◌++◌, Some, None, append_assoc, refl, sym, ap, subst, inl, inr, ◌∙◌}
use Rattle.std.proofs.lemmas.Bool.{false≢true, true≢false, or_cases, or_left, or_right}
use Rattle.std.proofs.lemmas.List.Folds.{list_any-append}
use Rattle.std.proofs.lemmas.Option.{none-some, same_Some}
use Rattle.std.specs.List.{find, flat_map, slice_get}
use Rattle.std.specs.Prelude.{if◌then◌else◌}
use Rattle.roam_address.specs.declared.endpoint.Endpoint.{Endpoint}
use Rattle.roam_conf.specs.Config.{ConfigView, RealmView}
use Rattle.roam_conf.specs.Duplicates.{has_duplicate_endpoint, has_pair, is_among, realm_endpoints, same_endpoint}
use Rattle.roam_conf.proofs.EqualPartsLemmas.{endpoint_decides}
use Rattle.roam_reload.specs.Moves.{is_moved}
use Rattle.roam_reload.specs.Reload.{here}
use Rattle.roam_reload.specs.declared.kind.PlaceKind.TheVariants.{Out, Reverse}

-- ## Two lists of endpoints, one behind the other

in_first : (xs ys : List Endpoint) (e : Endpoint) → is_among xs e ≡ true → is_among (xs ++ ys) e ≡ true
in_first xs ys e is = list_any-append (same_endpoint e) xs ys ∙ or_left (is_among xs e) (is_among ys e) is

in_second : (xs ys : List Endpoint) (e : Endpoint) → is_among ys e ≡ true → is_among (xs ++ ys) e ≡ true
in_second xs ys e is = list_any-append (same_endpoint e) xs ys ∙ or_right (is_among xs e) (is_among ys e) is

-- an endpoint that is in both stands there twice
in_both : (xs ys : List Endpoint) (e : Endpoint) → is_among xs e ≡ true → is_among ys e ≡ true →
    has_pair same_endpoint (xs ++ ys) ≡ true
in_both [] ys e one other = absurd (false≢true one)
in_both (x ∷ xs) ys e one other =
    elim (or_cases (same_endpoint e x) (is_among xs e) one) [
      | inl is ↦ (
          let there : is_among ys x ≡ true = subst (λ y. is_among ys y ≡ true) ((endpoint_decides e x).0 is) other in
          or_left (is_among (xs ++ ys) x) (has_pair same_endpoint (xs ++ ys)) (in_second xs ys x there))
      | inr later ↦ (
          or_right (is_among (xs ++ ys) x) (has_pair same_endpoint (xs ++ ys)) (in_both xs ys e later other))
    ]

pair_first : (xs ys : List Endpoint) → has_pair same_endpoint xs ≡ true → has_pair same_endpoint (xs ++ ys) ≡ true
pair_first [] ys is = absurd (false≢true is)
pair_first (x ∷ xs) ys is =
    elim (or_cases (is_among xs x) (has_pair same_endpoint xs) is) [
      | inl one ↦ (or_left (is_among (xs ++ ys) x) (has_pair same_endpoint (xs ++ ys)) (in_first xs ys x one))
      | inr later ↦ (or_right (is_among (xs ++ ys) x) (has_pair same_endpoint (xs ++ ys)) (pair_first xs ys later))
    ]

pair_second : (xs ys : List Endpoint) → has_pair same_endpoint ys ≡ true → has_pair same_endpoint (xs ++ ys) ≡ true
pair_second [] ys is = is
pair_second (x ∷ xs) ys is =
    or_right (is_among (xs ++ ys) x) (has_pair same_endpoint (xs ++ ys)) (pair_second xs ys is)

-- ## Those of the realms that are here

abbrev at : (RealmView → List Endpoint) → List RealmView → Endpoint → Bool
at places realms e = is_among (flat_map places (here realms)) e

abbrev all_of : List RealmView → List Endpoint
all_of realms = flat_map realm_endpoints realms

-- a realm that is here in front of others
abbrev in_front : (RealmView → List Endpoint) → Bool → RealmView → List RealmView → List Endpoint
in_front places gone r rs = flat_map places (if not gone then r ∷ here rs else here rs)

abbrev all_in_front : Bool → RealmView → List RealmView → List Endpoint
all_in_front gone r rs = (if gone then [] else r.out ++ r.reverse) ++ all_of rs

split : (places : RealmView → List Endpoint) (r : RealmView) (rs : List RealmView) (e : Endpoint) →
    is_among (places r ++ flat_map places (here rs)) e ≡ true → (is_among (places r) e || at places rs e) ≡ true
split places r rs e is = sym (list_any-append (same_endpoint e) (places r) (flat_map places (here rs))) ∙ is

abbrev outs : RealmView → List Endpoint
outs r = r.out

abbrev reverses : RealmView → List Endpoint
reverses r = r.reverse

-- one of such places is one of all of them
of_all : (places : RealmView → List Endpoint)
    → ((r : RealmView) (e : Endpoint) → is_among (places r) e ≡ true → is_among (r.out ++ r.reverse) e ≡ true)
    → (realms : List RealmView) (e : Endpoint) → at places realms e ≡ true → is_among (all_of realms) e ≡ true
of_all places part [] e is = absurd (false≢true is)
of_all places part (r ∷ rs) e is = by_gone r.gone is (of_all places part rs e)
  where
    by_gone : (gone : Bool) → is_among (in_front places gone r rs) e ≡ true
        → (at places rs e ≡ true → is_among (all_of rs) e ≡ true) → is_among (all_in_front gone r rs) e ≡ true
    by_gone true there next = next there
    by_gone false there next =
        elim (or_cases (is_among (places r) e) (at places rs e) (split places r rs e there)) [
          | inl one ↦ (in_first (r.out ++ r.reverse) (all_of rs) e (part r e one))
          | inr later ↦ (in_second (r.out ++ r.reverse) (all_of rs) e (next later))
        ]

out_part : (r : RealmView) (e : Endpoint) → is_among r.out e ≡ true → is_among (r.out ++ r.reverse) e ≡ true
out_part r e is = in_first r.out r.reverse e is

reverse_part : (r : RealmView) (e : Endpoint) → is_among r.reverse e ≡ true → is_among (r.out ++ r.reverse) e ≡ true
reverse_part r e is = in_second r.out r.reverse e is

-- an endpoint that is an `out` and a `reverse` stands there twice
out_and_reverse : (realms : List RealmView) (e : Endpoint) → at outs realms e ≡ true → at reverses realms e ≡ true →
    has_pair same_endpoint (all_of realms) ≡ true
out_and_reverse [] e one other = absurd (false≢true one)
out_and_reverse (r ∷ rs) e one other = by_gone r.gone one other (out_and_reverse rs e)
  where
    both : List Endpoint
    both = r.out ++ r.reverse

    pairs : is_among r.out e ≡ true ⊎ at outs rs e ≡ true → is_among r.reverse e ≡ true ⊎ at reverses rs e ≡ true
        → (at outs rs e ≡ true → at reverses rs e ≡ true → has_pair same_endpoint (all_of rs) ≡ true)
        → has_pair same_endpoint (both ++ all_of rs) ≡ true
    pairs (inl a) (inl b) next = pair_first both (all_of rs) (in_both r.out r.reverse e a b)
    pairs (inl a) (inr b) next =
        in_both both (all_of rs) e (out_part r e a) (of_all reverses reverse_part rs e b)
    pairs (inr a) (inl b) next =
        in_both both (all_of rs) e (reverse_part r e b) (of_all outs out_part rs e a)
    pairs (inr a) (inr b) next = pair_second both (all_of rs) (next a b)

    by_gone : (gone : Bool) → is_among (in_front outs gone r rs) e ≡ true
        → is_among (in_front reverses gone r rs) e ≡ true
        → (at outs rs e ≡ true → at reverses rs e ≡ true → has_pair same_endpoint (all_of rs) ≡ true)
        → has_pair same_endpoint (all_in_front gone r rs) ≡ true
    by_gone true a b next = next a b
    by_gone false a b next =
        pairs (or_cases (is_among r.out e) (at outs rs e) (split outs r rs e a))
        (or_cases (is_among r.reverse e) (at reverses rs e) (split reverses r rs e b)) next

-- one of a realm that is here is one of the realms'
of_realm : (places : RealmView → List Endpoint) (realms : List RealmView) (i : ℕ) (realm : RealmView) (e : Endpoint) →
    slice_get realms i ≡ Some realm → realm.gone ≡ false → is_among (places realm) e ≡ true → at places realms e ≡ true
of_realm places [] i realm e there is_here is = absurd (none-some realm there)
of_realm places (x ∷ xs) zero realm e there is_here is =
    subst (λ (y : RealmView). is_among (in_front places y.gone y xs) e ≡ true) (sym (same_Some x realm there))
    (subst (λ (gone : Bool). is_among (in_front places gone realm xs) e ≡ true) (sym is_here)
    (in_first (places realm) (flat_map places (here xs)) e is))
of_realm places (x ∷ xs) (suc i) realm e there is_here is =
    by_gone x.gone (of_realm places xs i realm e there is_here is)
  where
    by_gone : (gone : Bool) → at places xs e ≡ true → is_among (in_front places gone x xs) e ≡ true
    by_gone true next = next
    by_gone false next = in_second (places x) (flat_map places (here xs)) e next

-- ## A place of one kind is at none of another

-- what would be a pair, where there is none
no_pair : (b pair : Bool) → (b ≡ true → pair ≡ true) → pair ≡ false → b ≡ false
no_pair true pair gives none = absurd (true≢false (sym (gives refl) ∙ none))
no_pair false pair gives none = refl

none_of : (a b c : Bool) → a ≡ false → b ≡ false → c ≡ false → (a || b || c) ≡ false
none_of a b c first second third = rw (first, second, third) refl

abbrev behind : ConfigView → List Endpoint
behind config = config.acct ++ all_of config.realms

abbrev own : ConfigView → List Endpoint
own config = config.auth ++ behind config

module _ (config : ConfigView) (none : has_pair same_endpoint (own config) ≡ false) (e : Endpoint) where
  -- one of the realms' is no `auth` and no `acct`
  not_auth : is_among (all_of config.realms) e ≡ true → is_among config.auth e ≡ false
  not_auth there =
      no_pair (is_among config.auth e) (has_pair same_endpoint (own config))
      (λ is. in_both config.auth (behind config) e is (in_second config.acct (all_of config.realms) e there)) none

  not_acct : is_among (all_of config.realms) e ≡ true → is_among config.acct e ≡ false
  not_acct there =
      no_pair (is_among config.acct e) (has_pair same_endpoint (own config))
      (λ is. pair_second config.auth (behind config) (in_both config.acct (all_of config.realms) e is there)) none

  -- an `out` is no `reverse`
  not_both : at outs config.realms e ≡ true → at reverses config.realms e ≡ false
  not_both there =
      no_pair (at reverses config.realms e) (has_pair same_endpoint (own config))
      (λ is. pair_second config.auth (behind config)
      (pair_second config.acct (all_of config.realms) (out_and_reverse config.realms e there is))) none

  not_out : at reverses config.realms e ≡ true → at outs config.realms e ≡ false
  not_out there =
      no_pair (at outs config.realms e) (has_pair same_endpoint (own config))
      (λ is. pair_second config.auth (behind config)
      (pair_second config.acct (all_of config.realms) (out_and_reverse config.realms e is there))) none

  out_stays : at outs config.realms e ≡ true → is_moved config Out e ≡ false
  out_stays there =
      let one = of_all outs out_part config.realms e there in
      none_of (is_among config.auth e) (is_among config.acct e) (at reverses config.realms e) (not_auth one)
      (not_acct one) (not_both there)

  reverse_stays : at reverses config.realms e ≡ true → is_moved config Reverse e ≡ false
  reverse_stays there =
      let one = of_all reverses reverse_part config.realms e there in
      none_of (is_among config.auth e) (is_among config.acct e) (at outs config.realms e) (not_auth one)
      (not_acct one) (not_out there)

-- where none of a list passes, none is found
none_found : (test : Endpoint → Bool) (es : List Endpoint) →
    ((e : Endpoint) → is_among es e ≡ true → test e ≡ false) → find test es ≡ None
none_found test [] none = refl
none_found test (x ∷ xs) none =
    let first : test x ≡ false =
    none x (or_left (same_endpoint x x) (is_among xs x) ((endpoint_decides x x).1 refl)) in
    rw first (none_found test xs (λ e. λ is. none e (or_right (same_endpoint e x) (is_among xs e) is)))

unfolded : (config : ConfigView) → has_duplicate_endpoint config.auth config.acct config.realms ≡ false →
    has_pair same_endpoint (own config) ≡ false
unfolding has_duplicate_endpoint
unfolded config once =
    ap (has_pair same_endpoint) (sym (append_assoc config.auth config.acct (all_of config.realms))) ∙ once

-- the `out`, and the `reverse`, of a realm that is here are at no place of another kind
pub outs_stay : (config : ConfigView) (i : ℕ) (realm : RealmView) →
    has_duplicate_endpoint config.auth config.acct config.realms ≡ false → slice_get config.realms i ≡ Some realm →
    realm.gone ≡ false → find (is_moved config Out) realm.out ≡ None
outs_stay config i realm once there is_here =
    none_found (is_moved config Out) realm.out (λ e. λ is. out_stays config (unfolded config once) e
    (of_realm outs config.realms i realm e there is_here is))

pub reverses_stay : (config : ConfigView) (i : ℕ) (realm : RealmView) →
    has_duplicate_endpoint config.auth config.acct config.realms ≡ false → slice_get config.realms i ≡ Some realm →
    realm.gone ≡ false → find (is_moved config Reverse) realm.reverse ≡ None
reverses_stay config i realm once there is_here =
    none_found (is_moved config Reverse) realm.reverse (λ e. λ is. reverse_stays config (unfolded config once) e
    (of_realm reverses config.realms i realm e there is_here is))

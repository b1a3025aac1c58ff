-- The laws of the look-up of names.
use Rattle.std.proofs.Common.{◌≡◌, ◌≢◌, ℕ, ◌+◌, ◌<◌, ◌==◌, Bool, true, false, not, cond, ◌&&◌, ◌||◌, List, [], ◌∷◌, ◌++◌, length, Option, Some, None, refl, ap, ◌∙◌, inl, inr, arith}
use Rattle.std.proofs.lemmas.Bool.{cases_eq}
use Rattle.std.proofs.lemmas.Bool.Decides.{nat_tests}
use Rattle.std.proofs.lemmas.List.{length-append}
use Rattle.std.proofs.lemmas.Option.{cond_some}
use Rattle.std.specs.List.{list_any, position_from, AllByRecursion}
use Rattle.std.specs.Option.{option_or}
use Rattle.std.specs.Prelude.{⊤, nat_lt, if◌then◌else◌}
use Rattle.std.specs.Str.{str_eq_ignore_ascii_case}
use Rattle.roam_conf.specs.Config.{PatternView, whole, suffix, any, RealmView, ConfigView}
use Rattle.roam_conf.specs.Lookup.{EndsIn, NoSuffix, first_place, owner_in, owner_with, pattern_lists, realm_owning, realm_owned, realm_named, may_fit, patterns_for, further_patterns, first_answer, after_dots}
use Rattle.roam_conf.specs.Patterns.{patterns_of, same_pattern}
use Rattle.roam_conf.proofs.IndexLemmas.{or_none}
use Rattle.roam_conf.proofs.NameLemmas.{answers_of_suffixes, named_whole, named_further, named_alone, within}

-- what follows a dot of a text
abbrev Follows : List ℕ → List ℕ → Type 0
Follows text ending = (front : List ℕ) × (text ≡ front ++ 46 ∷ ending)

one_further : (x : ℕ) (text ending : List ℕ) → Follows text ending → Follows (x ∷ text) ending
one_further x text ending follows = (x ∷ follows.0, ap (λ l. x ∷ l) follows.1)

-- the answers of what follows the dots, by whether the first octet is one
at_dot : (f : List ℕ → Option ℕ) (x : ℕ) (text : List ℕ) → x ≡ 46 →
    first_answer f (after_dots (x ∷ text)) ≡ option_or (f text) (first_answer f (after_dots text))
at_dot f x text is =
    let test : (x == 46) ≡ true = grind (arith, nat_tests) in
    rw test refl

off_dot : (f : List ℕ → Option ℕ) (x : ℕ) (text : List ℕ) → x ≢ 46 →
    first_answer f (after_dots (x ∷ text)) ≡ first_answer f (after_dots text)
off_dot f x text isn't =
    let test : (x == 46) ≡ false = grind (arith, nat_tests) in
    rw test refl

longest : (f : List ℕ → Option ℕ) (text front ending : List ℕ) (r : ℕ) → text ≡ front ++ 46 ∷ ending →
    f ending ≡ Some r → ((longer : List ℕ) → Follows text longer → length ending < length longer → f longer ≡ None) →
    first_answer f (after_dots text) ≡ Some r
longest f [] [] ending r is found none = cc
longest f [] (x ∷ front) ending r is found none = cc
longest f (x ∷ text) [] ending r is found none =
    let dot : x ≡ 46 = cc in
    let rest : text ≡ ending = cc in
    at_dot f x text dot ∙ ap (λ o. option_or o (first_answer f (after_dots text))) (ap f rest ∙ found)
longest f (x ∷ text) (y ∷ front) ending r is found none =
    let rest : text ≡ front ++ 46 ∷ ending = cc in
    let more = longest f text front ending r rest found
    (λ longer follows above. none longer (one_further x text longer follows) above) in
    elim (cases_eq x 46) [
      | inl dot ↦ (
          let above : length ending < length text = omega (arith, ap length rest, length-append front (46 ∷ ending)) in
          let here : f text ≡ None = none text ([], ap (λ n. n ∷ text) dot) above in
          at_dot f x text dot ∙ ap (λ o. option_or o (first_answer f (after_dots text))) here ∙ more)
      | inr other ↦ off_dot f x text other ∙ more
    ]

no_answer : (f : List ℕ → Option ℕ) (text : List ℕ) → ((ending : List ℕ) → Follows text ending → f ending ≡ None) →
    first_answer f (after_dots text) ≡ None
no_answer f [] none = refl
no_answer f (x ∷ text) none =
    let more = no_answer f text (λ ending follows. none ending (one_further x text ending follows)) in
    elim (cases_eq x 46) [
      | inl dot ↦ (
          let here : f text ≡ None = none text ([], ap (λ n. n ∷ text) dot) in
          at_dot f x text dot ∙ ap (λ o. option_or o (first_answer f (after_dots text))) here ∙ more)
      | inr other ↦ off_dot f x text other ∙ more
    ]

-- what follows a dot of the text behind a first octet is what the whole ends in
ends_in : (first : ℕ) (rest ending : List ℕ) → Follows rest ending → EndsIn (first ∷ rest) ending
ends_in first rest ending follows = (first ∷ follows.0, λ e. cc, ap (λ l. first ∷ l) follows.1)

suffix_answer : (config : ConfigView) (first : ℕ) (rest : List ℕ) →
    first_answer (owner_with config) (further_patterns (first ∷ rest))
    ≡ option_or (first_answer (λ n. owner_with config (suffix n)) (after_dots rest)) (owner_with config any)
suffix_answer config first rest =
    answers_of_suffixes (owner_with config) (after_dots rest) (any ∷ [])
    ∙ ap (option_or (first_answer (λ n. owner_with config (suffix n)) (after_dots rest)))
    (or_none (owner_with config any))

-- what decides of a name is what it means
means : (config : ConfigView) (name : List ℕ) (owner : Option ℕ) →
    first_answer (owner_with config) (patterns_for config name) ≡ owner →
    realm_named config name ≡ realm_owned config owner
unfolding realm_named
means config name owner is = ap (realm_owned config) is

pub whole_name : (config : ConfigView) (name : List ℕ) (owner : ℕ) → owner_with config (whole name) ≡ Some owner →
    realm_named config name ≡ realm_owning config owner
whole_name config name owner is = means config name (Some owner) (named_whole config name owner is)

pub ill_formed_name : (config : ConfigView) (name : List ℕ) → may_fit config name ≡ false →
    realm_named config name ≡ realm_owned config (owner_with config (whole name))
ill_formed_name config name ill = means config name (owner_with config (whole name)) (named_alone config name ill)

pub longest_suffix : (config : ConfigView) (name ending : List ℕ) (owner : ℕ) → owner_with config (whole name) ≡ None
    → may_fit config name ≡ true → EndsIn name ending → owner_with config (suffix ending) ≡ Some owner →
    NoSuffix (λ longer. length ending < length longer) config name → realm_named config name ≡ realm_owning config owner
longest_suffix config [] ending owner unnamed fits ends named none = by_front ends.0 ends.2
  where
    by_front : (front : List ℕ) → [] ≡ front ++ 46 ∷ ending → realm_named config [] ≡ realm_owning config owner
    by_front [] is = cc
    by_front (x ∷ front) is = cc
longest_suffix config (first ∷ rest) ending owner unnamed fits ends named none = by_front ends.0 ends.1 ends.2
  where
    by_front : (front : List ℕ) → front ≢ [] → first ∷ rest ≡ front ++ 46 ∷ ending →
        realm_named config (first ∷ rest) ≡ realm_owning config owner
    by_front [] some is = absurd (some refl)
    by_front (x ∷ front) some is =
        let behind : rest ≡ front ++ 46 ∷ ending = cc in
        let found = longest (λ n. owner_with config (suffix n)) rest front ending owner behind named
        (λ longer follows above. none longer (ends_in first rest longer follows) above) in
        means config (first ∷ rest) (Some owner) (named_further config (first ∷ rest) unnamed fits
        ∙ suffix_answer config first rest ∙ ap (λ o. option_or o (owner_with config any)) found)

pub any_name : (config : ConfigView) (name : List ℕ) → name ≢ [] → owner_with config (whole name) ≡ None →
    may_fit config name ≡ true → NoSuffix (λ ending. ⊤) config name →
    realm_named config name ≡ realm_owned config (owner_with config any)
any_name config [] some unnamed fits none = absurd (some refl)
any_name config (first ∷ rest) some unnamed fits none =
    let nothing = no_answer (λ n. owner_with config (suffix n)) rest
    (λ ending follows. none ending (ends_in first rest ending follows) tt) in
    means config (first ∷ rest) (owner_with config any) (named_further config (first ∷ rest) unnamed fits
    ∙ suffix_answer config first rest ∙ ap (λ o. option_or o (owner_with config any)) nothing)

-- a realm that a name means is configured
pub realm_named_within : (config : ConfigView) (name : List ℕ) (i : ℕ) → realm_named config name ≡ Some i →
    i < length config.realms
unfolding realm_named
realm_named_within config name i is = by_owner (first_answer (owner_with config) (patterns_for config name)) is
  where
    by_owner : (owner : Option ℕ) → realm_owned config owner ≡ Some i → i < length config.realms
    by_owner None named = cc
    by_owner (Some owner) named =
        let both = cond_some (nat_lt owner (length config.realms)) owner i named in
        let inside : nat_lt owner (length config.realms) ≡ true = both.0 in
        let same : owner ≡ i = both.1 in
        grind (arith, nat_tests)

-- Where no realm has a pattern, and nothing is rejected.

abbrev HasNone : RealmView → Type 0
HasNone realm = realm.also ≡ []

or_false : (b : Bool) → b || false ≡ b
or_false true = refl
or_false false = refl

-- the realm is here, and has the name
abbrev is_named : List ℕ → RealmView → Bool
is_named name realm = not realm.gone && str_eq_ignore_ascii_case name realm.name

name_alone : (name : List ℕ) (r : RealmView) → HasNone r →
    list_any (same_pattern (whole name)) (patterns_of r) ≡ is_named name r
name_alone name r none =
    ap (λ also. list_any (same_pattern (whole name)) (if r.gone then [] else whole r.name ∷ also)) none ∙ by_gone r.gone
  where
    by_gone : (gone : Bool) → list_any (same_pattern (whole name)) (if gone then [] else whole r.name ∷ [])
        ≡ (not gone && str_eq_ignore_ascii_case name r.name)
    by_gone true = refl
    by_gone false = or_false (str_eq_ignore_ascii_case name r.name)

whole_place : (name : List ℕ) (n : ℕ) (realms : List RealmView) → AllByRecursion HasNone realms →
    position_from (list_any (same_pattern (whole name))) n (pattern_lists realms [])
    ≡ position_from (is_named name) n realms
whole_place name n [] all = refl
whole_place name n (r ∷ rs) all =
    ap (λ b. cond b (Some n) (position_from (list_any (same_pattern (whole name))) (n + 1) (pattern_lists rs [])))
    (name_alone name r all.0) ∙ ap (cond (is_named name r) (Some n)) (whole_place name (n + 1) rs all.1)

none_but_names : (p : PatternView) → ((name : List ℕ) → same_pattern p (whole name) ≡ false) →
    (r : RealmView) → HasNone r → list_any (same_pattern p) (patterns_of r) ≡ false
none_but_names p never r none =
    ap (λ also. list_any (same_pattern p) (if r.gone then [] else whole r.name ∷ also)) none ∙ by_gone r.gone
  where
    by_gone : (gone : Bool) → list_any (same_pattern p) (if gone then [] else whole r.name ∷ []) ≡ false
    by_gone true = refl
    by_gone false = or_false (same_pattern p (whole r.name)) ∙ never r.name

no_place : (p : PatternView) → ((name : List ℕ) → same_pattern p (whole name) ≡ false) →
    (n : ℕ) (realms : List RealmView) → AllByRecursion HasNone realms →
    position_from (list_any (same_pattern p)) n (pattern_lists realms []) ≡ None
no_place p never n [] all = refl
no_place p never n (r ∷ rs) all =
    ap (λ b. cond b (Some n) (position_from (list_any (same_pattern p)) (n + 1) (pattern_lists rs [])))
    (none_but_names p never r all.0) ∙ no_place p never (n + 1) rs all.1

module _ (config : ConfigView) (all : AllByRecursion HasNone config.realms) (none : config.reject ≡ []) where
  nobody : (p : PatternView) → ((name : List ℕ) → same_pattern p (whole name) ≡ false) → owner_with config p ≡ None
  nobody p never = ap (λ l. owner_in (pattern_lists config.realms l) p) none ∙ no_place p never 0 config.realms all

  no_suffixes : (names : List (List ℕ)) → first_answer (λ n. owner_with config (suffix n)) names ≡ None
  no_suffixes [] = refl
  no_suffixes (n ∷ ns) = rw (nobody (suffix n) (λ _. refl)) (no_suffixes ns)

  no_further : (name : List ℕ) → first_answer (owner_with config) (further_patterns name) ≡ None
  no_further [] = refl
  no_further (first ∷ rest) =
      suffix_answer config first rest
      ∙ ap (λ o. option_or o (owner_with config any)) (no_suffixes (after_dots rest))
      ∙ nobody any (λ _. refl)

  no_more : (name : List ℕ) (fits : Bool) →
      first_answer (owner_with config) (if fits then further_patterns name else []) ≡ None
  no_more name true = no_further name
  no_more name false = refl

  -- a place among the realms is a realm
  owned_place : (test : RealmView → Bool) (found : Option ℕ) → first_place test config.realms ≡ found →
      realm_owned config found ≡ found
  owned_place test None is = refl
  owned_place test (Some i) is =
      let inside : nat_lt i (length config.realms) ≡ true =
      grind (arith, nat_tests, within test 0 config.realms i is) in
      rw inside refl

  pub names_alone : (name : List ℕ) →
      realm_named config name ≡ first_place (is_named name) config.realms
  names_alone name =
      let owner : first_answer (owner_with config) (patterns_for config name)
      ≡ first_place (is_named name) config.realms =
      ap (option_or (owner_with config (whole name))) (no_more name (may_fit config name))
      ∙ or_none (owner_with config (whole name))
      ∙ ap (λ l. owner_in (pattern_lists config.realms l) (whole name)) none
      ∙ whole_place name 0 config.realms all in
      means config name _ owner ∙ owned_place (is_named name) _ refl

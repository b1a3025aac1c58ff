-- What the index of names finds is what the look-up says; and the laws of the look-up.
use Rattle.std.proofs.Common.{◌≡◌, ◌≢◌, ℕ, suc, ◌+◌, ◌<◌, ◌≤◌, Bool, true, false, cond, ◌&&◌, ◌||◌, not, List, [], ◌∷◌, ◌++◌, length, map, get_or, drop-cons, Option, Some, None, refl, sym, ap, ◌∙◌, inl, inr, append_assoc, arith}
use Rattle.std.proofs.lemmas.Bool.{cases_Bool, false≢true, or_parts}
use Rattle.std.proofs.lemmas.List.{append-nil, length-map}
use Rattle.std.proofs.lemmas.Option.{same_Some}
use Rattle.std.specs.List.{list_any, position_from, flat_map}
use Rattle.std.specs.Option.{option_or}
use Rattle.std.specs.Prelude.{if◌then◌else◌, is_none, take, drop, slice_set}
use Rattle.std.specs.Str.{bytes_eq}
use Rattle.roam_conf.specs.declared.realm.Realm.{Realm}
use Rattle.roam_conf.specs.Config.{PatternView, whole, suffix, any, RealmView, ConfigView}
use Rattle.roam_conf.specs.Duplicates.{has_pair, has_duplicate_realm}
use Rattle.roam_conf.specs.Index.{owner_of, all_new, pattern_key, of_owner, all_patterns}
use Rattle.roam_conf.specs.Lookup.{owner_in, owner_with, pattern_lists, may_fit, patterns_for, further_patterns, first_answer, after_dots}
use Rattle.roam_conf.specs.Parts.{shown_realm}
use Rattle.roam_conf.proofs.IndexLemmas.{or_none, same_both_ways}
use Rattle.roam_conf.specs.Patterns.{same_pattern, patterns_of}

-- two patterns are the same just where their keys are
pub same_key : (p q : PatternView) → bytes_eq (pattern_key p) (pattern_key q) ≡ same_pattern p q
same_key (whole a) (whole b) = refl
same_key (whole a) (suffix b) = refl
same_key (whole a) any = refl
same_key (suffix a) (whole b) = refl
same_key (suffix a) (suffix b) = refl
same_key (suffix a) any = refl
same_key any (whole b) = refl
same_key any (suffix b) = refl
same_key any any = refl

-- The look-up in the list of all patterns.

lookup_of_owner : (p : PatternView) (i : ℕ) (ps : List PatternView) (rest : List (List ℕ × ℕ)) →
    owner_of (map (of_owner i) ps ++ rest) (pattern_key p)
    ≡ cond (list_any (same_pattern p) ps) (Some i) (owner_of rest (pattern_key p))
lookup_of_owner p i [] rest = refl
lookup_of_owner p i (q ∷ qs) rest =
    elim (cases_Bool (same_pattern p q)) [
      | inl yes' ↦ rw (same_key p q, yes')
      | inr no' ↦ rw (same_key p q, no') (lookup_of_owner p i qs rest)
    ]

lookup_from : (p : PatternView) (i : ℕ) (lists : List (List PatternView)) →
    owner_of (all_patterns i lists) (pattern_key p) ≡ position_from (list_any (same_pattern p)) i lists
lookup_from p i [] = refl
lookup_from p i (list ∷ lists) =
    let next : suc i ≡ i + 1 = omega arith in
    lookup_of_owner p i list (all_patterns (suc i) lists)
    ∙ ap (cond (list_any (same_pattern p) list) (Some i)) (lookup_from p (suc i) lists
    ∙ ap (λ n. position_from (list_any (same_pattern p)) n lists) next)

-- the index of all patterns finds the list that has one
pub finds : (lists : List (List PatternView)) (p : PatternView) →
    owner_of (all_patterns 0 lists) (pattern_key p) ≡ owner_in lists p
finds lists p = lookup_from p 0 lists

-- Duplicates: all patterns are new just where no two are the same.

abbrev pub same_entry : List ℕ × ℕ → List ℕ × ℕ → Bool
same_entry a b = bytes_eq a.0 b.0

or_assoc : (a b c : Bool) → (a || b) || c ≡ a || (b || c)
or_assoc true b c = refl
or_assoc false b c = refl

any_append : {X : Type 0} (test : X → Bool) (xs ys : List X) →
    list_any test (xs ++ ys) ≡ list_any test xs || list_any test ys
any_append test [] ys = refl
any_append test (x ∷ xs) ys = ap (λ b. test x || b) (any_append test xs ys)
    ∙ sym (or_assoc (test x) (list_any test xs) (list_any test ys))

-- an element behind a list: it is in the list, or the pair is among the others
pair_behind : (done : List (List ℕ × ℕ)) (x : List ℕ × ℕ) (rest : List (List ℕ × ℕ)) →
    list_any (same_entry x) done ≡ true → has_pair same_entry (done ++ x ∷ rest) ≡ true
pair_behind [] x rest there = absurd (false≢true there)
pair_behind (d ∷ ds) x rest there =
    elim (cases_Bool (same_entry x d)) [
      | inl yes' ↦ (
          let here : list_any (same_entry d) (ds ++ x ∷ rest) ≡ true = any_append (same_entry d) ds (x ∷ rest)
          ∙ rw (same_both_ways d.0 x.0, yes') (or_true (list_any (same_entry d) ds)) in
          rw here refl)
      | inr no' ↦ (
          let more : list_any (same_entry x) ds ≡ true = rw no' at there in
          rw (pair_behind ds x rest more) (or_true (list_any (same_entry d) (ds ++ x ∷ rest))))
    ]
  where
    or_true : (a : Bool) → a || true ≡ true
    or_true true = refl
    or_true false = refl

no_pair_behind : (done : List (List ℕ × ℕ)) (x : List ℕ × ℕ) → has_pair same_entry done ≡ false →
    list_any (same_entry x) done ≡ false → has_pair same_entry (done ++ x ∷ []) ≡ false
no_pair_behind [] x none absent = refl
no_pair_behind (d ∷ ds) x none absent =
    let first = or_parts (list_any (same_entry d) ds) (has_pair same_entry ds) none in
    let apart = or_parts (same_entry x d) (list_any (same_entry x) ds) absent in
    let here : list_any (same_entry d) (ds ++ x ∷ []) ≡ false = any_append (same_entry d) ds (x ∷ [])
    ∙ rw (first.0, same_both_ways d.0 x.0, apart.0) refl in
    rw (here, no_pair_behind ds x first.1 apart.1) refl

none_owns : (entries : List (List ℕ × ℕ)) (x : List ℕ × ℕ) →
    is_none (owner_of entries x.0) ≡ not (list_any (same_entry x) entries)
none_owns [] x = refl
none_owns (e ∷ es) x =
    elim (cases_Bool (same_entry x e)) [
      | inl yes' ↦ rw yes' refl
      | inr no' ↦ rw no' (none_owns es x)
    ]

pub new_or_pair : (done rest : List (List ℕ × ℕ)) → has_pair same_entry done ≡ false →
    all_new done rest ≡ not (has_pair same_entry (done ++ rest))
new_or_pair done [] none = rw (append-nil done, none) refl
new_or_pair done (x ∷ xs) none =
    elim (cases_Bool (list_any (same_entry x) done)) [
      | inl yes' ↦ rw (none_owns done x, yes', pair_behind done x xs yes') refl
      | inr no' ↦ rw (none_owns done x, no') (new_or_pair (done ++ x ∷ []) xs (no_pair_behind done x none no')
          ∙ ap (λ l. not (has_pair same_entry l)) (append_assoc done (x ∷ []) xs))
    ]

-- the patterns of all lists
abbrev joined : List (List PatternView) → List PatternView
joined lists = flat_map (λ list. list) lists

-- pairs of entries are pairs of patterns
any_key : (p : PatternView) (i j : ℕ) (ps : List PatternView) (rest : List (List ℕ × ℕ)) →
    list_any (same_entry (of_owner i p)) (map (of_owner j) ps ++ rest)
    ≡ list_any (same_pattern p) ps || list_any (same_entry (of_owner i p)) rest
any_key p i j [] rest = refl
any_key p i j (q ∷ qs) rest =
    rw (same_key p q, any_key p i j qs rest)
    (sym (or_assoc (same_pattern p q) (list_any (same_pattern p) qs) (list_any (same_entry (of_owner i p)) rest)))

any_key_all : (p : PatternView) (i j : ℕ) (lists : List (List PatternView)) →
    list_any (same_entry (of_owner i p)) (all_patterns j lists) ≡ list_any (same_pattern p) (joined lists)
any_key_all p i j [] = refl
any_key_all p i j (list ∷ lists) =
    any_key p i j list (all_patterns (suc j) lists)
    ∙ ap (λ b. list_any (same_pattern p) list || b) (any_key_all p i (suc j) lists)
    ∙ sym (any_append (same_pattern p) list (joined lists))

pair_of_owner : (i : ℕ) (ps : List PatternView) (lists : List (List PatternView)) →
    has_pair same_entry (all_patterns (suc i) lists) ≡ has_pair same_pattern (joined lists) →
    has_pair same_entry (map (of_owner i) ps ++ all_patterns (suc i) lists) ≡ has_pair same_pattern (ps ++ joined lists)
pair_of_owner i [] lists rest = rest
pair_of_owner i (p ∷ ps) lists rest =
    let first : list_any (same_entry (of_owner i p)) (map (of_owner i) ps ++ all_patterns (suc i) lists)
    ≡ list_any (same_pattern p) (ps ++ joined lists) =
    any_key p i i ps (all_patterns (suc i) lists)
    ∙ ap (λ b. list_any (same_pattern p) ps || b) (any_key_all p i (suc i) lists)
    ∙ sym (any_append (same_pattern p) ps (joined lists)) in
    rw (first, pair_of_owner i ps lists rest) refl

pair_of_all : (i : ℕ) (lists : List (List PatternView)) →
    has_pair same_entry (all_patterns i lists) ≡ has_pair same_pattern (joined lists)
pair_of_all i [] = refl
pair_of_all i (list ∷ lists) = pair_of_owner i list lists (pair_of_all (suc i) lists)

joined_lists : (realms : List RealmView) (reject : List PatternView) →
    joined (pattern_lists realms reject) ≡ flat_map patterns_of realms ++ reject
joined_lists [] reject = append-nil reject
joined_lists (realm ∷ realms) reject =
    ap (λ l. patterns_of realm ++ l) (joined_lists realms reject)
    ∙ sym (append_assoc (patterns_of realm) (flat_map patterns_of realms) reject)

pub new_or_duplicate : (realms : List RealmView) (reject : List PatternView) →
    all_new [] (all_patterns 0 (pattern_lists realms reject)) ≡ not (has_duplicate_realm realms reject)
unfolding has_duplicate_realm
new_or_duplicate realms reject =
    new_or_pair [] (all_patterns 0 (pattern_lists realms reject)) refl
    ∙ ap not (pair_of_all 0 (pattern_lists realms reject) ∙ ap (has_pair same_pattern) (joined_lists realms reject))

-- The loops that note patterns.

pub first_set : (buffer : List ℕ) (x : ℕ) → 1 ≤ length buffer → take 1 (slice_set buffer 0 x) ≡ x ∷ []
first_set [] x long = absurd (omega arith)
first_set (b ∷ bs) x long = refl

and_assoc : (a b c : Bool) → (a && b) && c ≡ a && (b && c)
and_assoc true b c = refl
and_assoc false b c = refl

-- more keys are new where the first of them are, and then the others
pub all_new_split : (done xs ys : List (List ℕ × ℕ)) →
    all_new done (xs ++ ys) ≡ all_new done xs && all_new (done ++ xs) ys
all_new_split done [] ys = ap (λ l. all_new l ys) (sym (append-nil done))
all_new_split done (x ∷ xs) ys =
    ap (λ b. is_none (owner_of done x.0) && b) (all_new_split (done ++ x ∷ []) xs ys
    ∙ ap (λ l. all_new (done ++ x ∷ []) xs && all_new l ys) (append_assoc done (x ∷ []) xs))
    ∙ sym (and_assoc (is_none (owner_of done x.0)) (all_new (done ++ x ∷ []) xs) (all_new (done ++ x ∷ xs) ys))

-- the patterns of a realm, and then those of the realms behind it
pub patterns_at : (realms : List Realm) (i : ℕ) (realm : Realm) → i < length realms → realm ≡ get_or realms i realm →
    all_patterns i (map patterns_of (map shown_realm (drop i realms)))
    ≡ map (of_owner i) (patterns_of (shown_realm realm))
    ++ all_patterns (i + 1) (map patterns_of (map shown_realm (drop (i + 1) realms)))
patterns_at realms i realm within is =
    let next : suc i ≡ i + 1 = omega arith in
    let here : drop i realms ≡ realm ∷ drop (i + 1) realms = drop-cons realms i realm within
    ∙ ap (λ n. get_or realms i realm ∷ drop n realms) next ∙ ap (λ r. r ∷ drop (i + 1) realms) (sym is) in
    ap (λ rs. all_patterns i (map patterns_of (map shown_realm rs))) here
    ∙ ap (λ n. map (of_owner i) (patterns_of (shown_realm realm))
    ++ all_patterns n (map patterns_of (map shown_realm (drop (i + 1) realms)))) next

module _ (old done here rest all : List (List ℕ × ℕ)) where
  -- a realm whose patterns are new
  pub more_new : true ≡ all_new done here → all_new done (here ++ rest) ≡ all_new old all →
      all_new (done ++ here) rest ≡ all_new old all
  more_new new before = ap (λ b. b && all_new (done ++ here) rest) new ∙ sym (all_new_split done here rest) ∙ before

  -- a realm of whose patterns one isn't
  pub not_new : false ≡ all_new done here → all_new done (here ++ rest) ≡ all_new old all → false ≡ all_new old all
  not_new twice before = ap (λ b. b && all_new (done ++ here) rest) twice ∙ sym (all_new_split done here rest) ∙ before

pub not_not : (a b : Bool) → a ≡ not b → not a ≡ b
not_not a true is = ap not is
not_not a false is = ap not is

-- the patterns of two rows of lists
pub all_patterns-append : (i : ℕ) (lists more : List (List PatternView)) →
    all_patterns i (lists ++ more) ≡ all_patterns i lists ++ all_patterns (i + length lists) more
all_patterns-append i [] more = let none : i ≡ i + 0 = omega arith in ap (λ n. all_patterns n more) none
all_patterns-append i (list ∷ lists) more =
    let next : suc i + length lists ≡ i + suc (length lists) = omega arith in
    ap (λ l. map (of_owner i) list ++ l) (all_patterns-append (suc i) lists more
    ∙ ap (λ n. all_patterns (suc i) lists ++ all_patterns n more) next)
    ∙ sym (append_assoc (map (of_owner i) list) (all_patterns (suc i) lists)
    (all_patterns (i + suc (length lists)) more))

-- those of realms, and behind them those to reject
pub rejects_behind : (realms : List Realm) (reject : List PatternView) →
    all_patterns 0 (pattern_lists (map shown_realm realms) reject)
    ≡ all_patterns 0 (map patterns_of (map shown_realm realms)) ++ map (of_owner (length realms)) reject
rejects_behind realms reject =
    let lists = map patterns_of (map shown_realm realms) in
    let count : 0 + length lists ≡ length realms =
    omega (arith, length-map (map shown_realm realms) patterns_of, length-map realms shown_realm) in
    all_patterns-append 0 lists (reject ∷ [])
    ∙ ap (λ n. all_patterns 0 lists ++ all_patterns n (reject ∷ [])) count
    ∙ ap (λ l. all_patterns 0 lists ++ l) (append-nil (map (of_owner (length realms)) reject))

-- those of realms that were noted, and then those to reject
module _ (old : List (List ℕ × ℕ)) (realms : List Realm) (reject : List PatternView) where
  abbrev of_realms : List (List ℕ × ℕ)
  of_realms = all_patterns 0 (map patterns_of (map shown_realm realms))

  abbrev of_rejects : List (List ℕ × ℕ)
  of_rejects = map (of_owner (length realms)) reject

  both_new : all_new old of_realms && all_new (old ++ of_realms) of_rejects
      ≡ all_new old (all_patterns 0 (pattern_lists (map shown_realm realms) reject))
  both_new = sym (all_new_split old of_realms of_rejects) ∙ ap (all_new old) (sym (rejects_behind realms reject))

  pub not_all_new : false ≡ all_new old (all_patterns 0 (map patterns_of (map shown_realm realms))) →
      false ≡ all_new old (all_patterns 0 (pattern_lists (map shown_realm realms) reject))
  not_all_new twice = ap (λ b. b && all_new (old ++ of_realms) of_rejects) twice ∙ both_new

  pub all_are_new : (new : Bool) → true ≡ all_new old (all_patterns 0 (map patterns_of (map shown_realm realms))) →
      new ≡ all_new (old ++ all_patterns 0 (map patterns_of (map shown_realm realms)))
      (map (of_owner (length realms)) reject) →
      new ≡ all_new old (all_patterns 0 (pattern_lists (map shown_realm realms) reject))
  all_are_new new realms_new is = is ∙ ap (λ b. b && all_new (old ++ of_realms) of_rejects) realms_new ∙ both_new

  pub all_noted : (old ++ all_patterns 0 (map patterns_of (map shown_realm realms)))
      ++ map (of_owner (length realms)) reject ≡ old ++ all_patterns 0 (pattern_lists (map shown_realm realms) reject)
  all_noted = append_assoc old of_realms of_rejects ∙ ap (λ l. old ++ l) (sym (rejects_behind realms reject))

-- what was noted into an empty index
pub first_noted : (realms : List RealmView) (reject : List PatternView) (done : List (List ℕ × ℕ)) (new : Bool) →
    done ≡ [] → new ≡ all_new done (all_patterns 0 (pattern_lists realms reject)) →
    new ≡ not (has_duplicate_realm realms reject)
first_noted realms reject done new empty is = is
    ∙ ap (λ l. all_new l (all_patterns 0 (pattern_lists realms reject))) empty ∙ new_or_duplicate realms reject

pub found_twice : (realms : List RealmView) (reject : List PatternView) (done : List (List ℕ × ℕ)) (new : Bool) →
    done ≡ [] → new ≡ all_new done (all_patterns 0 (pattern_lists realms reject)) →
    not new ≡ has_duplicate_realm realms reject
found_twice realms reject done new empty is =
    not_not new (has_duplicate_realm realms reject) (first_noted realms reject done new empty is)

-- what the index finds
pub found_in : (config : ConfigView) (p : PatternView) (key : List ℕ) (entries : List (List ℕ × ℕ)) →
    entries ≡ all_patterns 0 (pattern_lists config.realms config.reject) → key ≡ pattern_key p →
    owner_of entries key ≡ owner_with config p
found_in config p key entries noted is =
    let lists = pattern_lists config.realms config.reject in
    ap (λ es. owner_of es key) noted ∙ ap (owner_of (all_patterns 0 lists)) is ∙ finds lists p

-- a place that is found lies within the list
pub within : {X : Type 0} (test : X → Bool) (n : ℕ) (xs : List X) (i : ℕ) → position_from test n xs ≡ Some i →
    i < n + length xs
within test n [] i is = cc
within test n (x ∷ xs) i is =
    elim (cases_Bool (test x)) [
      | inl yes' ↦ (let same : Some n ≡ Some i = rw yes' at is in omega (arith, same_Some n i same))
      | inr no' ↦ (let rest : position_from test (n + 1) xs ≡ Some i = rw no' at is in
          omega (arith, within test (n + 1) xs i rest))
    ]

-- the answers of suffixes, and of what is asked behind them
pub answers_of_suffixes : (f : PatternView → Option ℕ) (names : List (List ℕ)) (more : List PatternView) →
    first_answer f (map suffix names ++ more)
    ≡ option_or (first_answer (λ name. f (suffix name)) names) (first_answer f more)
answers_of_suffixes f [] more = refl
answers_of_suffixes f (n ∷ ns) more = by_answer (f (suffix n)) (answers_of_suffixes f ns more)
  where
    by_answer : (answer : Option ℕ) →
        first_answer f (map suffix ns ++ more)
        ≡ option_or (first_answer (λ name. f (suffix name)) ns) (first_answer f more) →
        option_or answer (first_answer f (map suffix ns ++ more))
        ≡ option_or (option_or answer (first_answer (λ name. f (suffix name)) ns)) (first_answer f more)
    by_answer None rest = rest
    by_answer (Some x) rest = refl

-- what a name that isn't empty fits: a suffix, or any name
pub further_answer : (f : PatternView → Option ℕ) (name : List ℕ) (found : Option ℕ) → 1 ≤ length name →
    found ≡ first_answer (λ n. f (suffix n)) (after_dots (drop 1 name)) →
    option_or found (f any) ≡ first_answer f (further_patterns name)
further_answer f [] found some is = absurd (omega arith)
further_answer f (first ∷ rest) found some is =
    sym (answers_of_suffixes f (after_dots rest) (any ∷ []) ∙ ap (λ o. option_or o (option_or (f any) None)) (sym is)
    ∙ ap (option_or found) (or_none (f any)))

-- a name that is somebody's decides; where it is nobody's, what it fits besides decides
pub named_whole : (config : ConfigView) (name : List ℕ) (owner : ℕ) → owner_with config (whole name) ≡ Some owner →
    first_answer (owner_with config) (patterns_for config name) ≡ Some owner
named_whole config name owner is =
    ap (λ o. option_or o (first_answer (owner_with config)
    (if may_fit config name then further_patterns name else []))) is

pub named_further : (config : ConfigView) (name : List ℕ) → owner_with config (whole name) ≡ None →
    may_fit config name ≡ true → first_answer (owner_with config) (patterns_for config name)
    ≡ first_answer (owner_with config) (further_patterns name)
named_further config name none fits =
    ap (λ o. option_or o (first_answer (owner_with config)
    (if may_fit config name then further_patterns name else []))) none
    ∙ ap (λ b. first_answer (owner_with config) (if b then further_patterns name else [])) fits

pub named_alone : (config : ConfigView) (name : List ℕ) → may_fit config name ≡ false →
    first_answer (owner_with config) (patterns_for config name) ≡ owner_with config (whole name)
named_alone config name ill =
    ap (λ b. option_or (owner_with config (whole name))
    (first_answer (owner_with config) (if b then further_patterns name else []))) ill
    ∙ or_none (owner_with config (whole name))

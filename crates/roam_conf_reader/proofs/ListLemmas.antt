-- What stands in an array states values that pass a test, at most so many.
use Rattle.std.proofs.Common.{◌≡◌, ◌≤◌, ℕ, suc, Bool, true, false, cond, List, [], ◌∷◌, ◌&&◌, ◌||◌, length, drop, map, codes, Option, Some, None, is_some, option_map, String, Global, string_bytes, refl, sym, ap, subst, ◌∙◌, arith, inl, inr}
use Rattle.std.proofs.lemmas.Bool.{and_from, and_parts, cases_Bool, false≢true}
use Rattle.std.proofs.lemmas.Bool.Decides.{nat_tests}
use Rattle.std.proofs.lemmas.List.{length-map}
use Rattle.std.proofs.lemmas.Option.{same_Some, cond_some}
use Rattle.std.specs.List.{list_all, list_any}
use Rattle.std.specs.Prelude.{nat_le, take}
use Rattle.std.specs.Str.{bytes_eq}
use Rattle.std.specs.declared.vec.Vec.{Vec}
use Rattle.toml.specs.Data.{Data, string, array, Items, no_items, item, Members, get_member}
use Rattle.roam_wire.specs.declared.removed_attribute.RemovedAttribute.{RemovedAttribute}
use Rattle.roam_wire.specs.RemovedAttributes.{is_removal, is_removal_in_requests, is_removal_in_replies}
use Rattle.roam_conf.specs.declared.accounting.Accounting.{Accounting}
use Rattle.roam_conf.specs.declared.server.Server.{Server}
use Rattle.roam_conf.specs.Config.{ServerView, PatternView, whole, suffix, any, RealmView}
use Rattle.roam_conf.specs.Letters.{is_nas_text}
use Rattle.roam_conf.specs.Parts.{shown_names, shown_server}
use Rattle.roam_conf.specs.Patterns.{is_realm_name, is_pattern, is_reject}
use Rattle.roam_conf.specs.Texts.{removed_in}
use Rattle.roam_conf_reader.specs.declared.values.Letters.TheVariants.{Any}
use Rattle.roam_conf_reader.specs.Document.{StatesEach, StatesTables, StatesServer, StatesRealm, are_serving, some_auth, some_acct}
use Rattle.roam_conf_reader.specs.Values.{accounting, array_of, value_at, pattern_in, pattern, each_of, cons_if_both, list_of, passing, rejects, removed, peer_names, text, letters_of, if_there, item_count, text_fits}
use Rattle.roam_conf_reader.specs.declared.removed.Removals.{Removals}
use Rattle.roam_conf_reader.specs.declared.removed.Removals.TheVariants.{OfRequests, OfReplies}
use Rattle.roam_conf_reader.specs.Removals.{kept_of, may_name}
use Rattle.roam_conf_reader.proofs.UniqueLemmas.{each_unique, server_unique}

-- a text that says a pattern says one with a realm's name
said_pattern : (octets : List ℕ) (p : PatternView) → pattern_in octets ≡ Some p → is_pattern p ≡ true
unfolding pattern_in
said_pattern octets p is =
    elim (cases_Bool (bytes_eq octets (42 ∷ []))) [
      | inl yes' ↦ (let same : Some any ≡ Some p = rw yes' at is in rw (← same_Some any p same) refl)
      | inr no' ↦ elim (cases_Bool (bytes_eq (take 2 octets) (42 ∷ 46 ∷ []))) [
        | inl front ↦ (
            let tail : cond (is_realm_name (drop 2 octets)) (Some (suffix (drop 2 octets))) None ≡ Some p =
            rw (no', front) at is in
            let both = cond_some (is_realm_name (drop 2 octets)) (suffix (drop 2 octets)) p tail in
            rw (← both.1) both.0)
        | inr other ↦ (
            let name : cond (is_realm_name octets) (Some (whole octets)) None ≡ Some p = rw (no', other) at is in
            let both = cond_some (is_realm_name octets) (whole octets) p name in
            rw (← both.1) both.0)
      ]
    ]

pub stated_pattern : (found : Data) (p : PatternView) → pattern found ≡ Some p → is_pattern p ≡ true
unfolding pattern
stated_pattern (string octets) p is = said_pattern octets p is
stated_pattern found p is = cc

-- what a list may name, by what stays
pub may_name_is : (r : Removals) (x : RemovedAttribute) → may_name r x ≡ is_removal (kept_of r) x
unfolding is_removal_in_requests is_removal_in_replies
may_name_is OfRequests x = refl
may_name_is OfReplies x = refl

-- a value that passes a test, and one that doesn't
pub passed : {V : Type 0} (test : V → Bool) (o : Option V) (v : V) → Some v ≡ o → test v ≡ true →
    Some v ≡ passing test o
passed test None v there holds = cc
passed test (Some w) v there holds =
    let same : v ≡ w = same_Some v w there in
    rw (← same, holds) refl

pub not_passed : {V : Type 0} (test : V → Bool) (o : Option V) (v : V) → Some v ≡ o → test v ≡ false →
    None ≡ passing test o
not_passed test None v there fails = refl
not_passed test (Some w) v there fails =
    let same : v ≡ w = same_Some v w there in
    rw (← same, fails) refl

-- an attribute that a list may name
pub stated_removed : (may_name : RemovedAttribute → Bool) (found : Data) (r : RemovedAttribute) →
    removed may_name found ≡ Some r → may_name r ≡ true
unfolding removed
stated_removed may_name (string octets) r is = by_text (removed_in octets) is
  where
    by_text : (o : Option RemovedAttribute) → passing may_name o ≡ Some r → may_name r ≡ true
    by_text None h = cc
    by_text (Some x) h =
        let both = cond_some (may_name x) x r h in
        rw (← both.1) both.0
stated_removed may_name found r is = cc

-- a text that an attribute has room for
pub stated_nas_text : (found : Data) (octets : List ℕ) → text 253 (letters_of Any) found ≡ Some octets →
    is_nas_text octets ≡ true
unfolding text text_fits is_nas_text
stated_nas_text (string found) octets is =
    let size : Bool = nat_le 1 (length found) && nat_le (length found) 253 in
    let both = cond_some (size && list_all (letters_of Any) found) found octets is in
    rw (← both.1) (and_parts size (list_all (letters_of Any) found) both.0).0
stated_nas_text found octets is = cc

-- so many values, each of which passes
pub record Pass {V : Type 0} (test : V → Bool) (n : ℕ) (values : List V) : Type 0 where
  pub count : length values ≡ n
  pub all : list_all test values ≡ true

-- at most so many values, each of which passes
pub record IsListOf {V : Type 0} (test : V → Bool) (most : ℕ) (values : List V) : Type 0 where
  pub count : length values ≤ most
  pub all : list_all test values ≡ true

module _ {V : Type 0} (reads : Data → Option V) (test : V → Bool) (passes : (found : Data) (v : V) →
    reads found ≡ Some v → test v ≡ true) where
  one_more : (found : Data) (items : Items) (o : Option V) (rest : Option (List V)) (values : List V) →
      reads found ≡ o → ((vs : List V) → rest ≡ Some vs → Pass test (item_count items) vs) →
      cons_if_both o rest ≡ Some values → Pass test (suc (item_count items)) values
  one_more found items None rest values here more is = cc
  one_more found items (Some v) None values here more is = cc
  one_more found items (Some v) (Some vs) values here more is =
      let others = more vs refl in
      let same : v ∷ vs ≡ values = same_Some (v ∷ vs) values is in
      rw (← same) (record {
        count = ap suc others.count;
        all = and_from (test v) (list_all test vs) (passes found v here) others.all;
      })

  pub each_passes : (items : Items) (values : List V) → each_of reads items ≡ Some values →
      Pass test (item_count items) values
  each_passes no_items values is = rw (← same_Some [] values is) (record { count = refl; all = refl })
  each_passes (item found items) values is =
      one_more found items (reads found) (each_of reads items) values refl (each_passes items) is

  -- what an optional array states
  pub is_list_of : (most : ℕ) (found : Option Data) (values : List V) → list_of reads most found ≡ Some values →
      IsListOf test most values
  unfolding list_of
  is_list_of most None values is = rw (← same_Some [] values is) (record { count = omega arith; all = refl })
  is_list_of most (Some (array items)) values is =
      let both = cond_some_each (nat_le (item_count items) most) (each_of reads items) values is in
      let read = each_passes items values both.1 in
      record { count = grind (arith, nat_tests, read.count); all = read.all }
    where
      cond_some_each : (b : Bool) (o : Option (List V)) (vs : List V) → cond b o None ≡ Some vs → (b ≡ true)
          × (o ≡ Some vs)
      cond_some_each true o vs h = (refl, h)
      cond_some_each false o vs h = absurd (cc h)
  is_list_of most (Some found) values is = cc

-- the names to reject
pub are_rejects : (found : Option Data) (ps : List PatternView) → rejects found ≡ Some ps → IsListOf is_reject 1024 ps
are_rejects found ps is = by_list (list_of pattern 1024 found) refl is
  where
    by_list : (o : Option (List PatternView)) → list_of pattern 1024 found ≡ o →
        passing (list_all is_reject) o ≡ Some ps → IsListOf is_reject 1024 ps
    by_list None read h = cc
    by_list (Some qs) read h =
        let both = cond_some (list_all is_reject qs) qs ps h in
        let patterns = is_list_of pattern is_pattern stated_pattern 1024 found qs read in
        rw (← both.1) (record { count = patterns.count; all = both.0 })

-- the names of peers are at most 1024
each_name_count : (items : Items) (names : List (List ℕ)) → each_of (text 64 (letters_of Any)) items ≡ Some names →
    length names ≡ item_count items
each_name_count items names is =
    (each_passes (text 64 (letters_of Any)) (λ name. true) (λ found v read. refl) items names is).count

few_names_at : (found : Data) (names : List (List ℕ)) → peer_names found ≡ Some names → length names ≤ 1024
unfolding peer_names
few_names_at (array items) names is = by_count (nat_le 1 (item_count items) && nat_le (item_count items) 1024) refl is
  where
    by_count : (b : Bool) → nat_le 1 (item_count items) && nat_le (item_count items) 1024 ≡ b →
        cond b (each_of (text 64 (letters_of Any)) items) None ≡ Some names → length names ≤ 1024
    by_count true fits h =
        let both = and_parts (nat_le 1 (item_count items)) (nat_le (item_count items) 1024) fits in
        grind (arith, nat_tests, each_name_count items names h)
    by_count false fits h = cc
few_names_at found names is = cc

-- the same of a copy of what a key states
pub few_names : (found : Option Data) (copy : Option (Vec (String Global) Global)) →
    if_there peer_names found ≡ Some (option_map shown_names copy) → (v : Vec (String Global) Global) → copy ≡ Some v
    → length v.items ≤ 1024
few_names None copy is v there =
    let none : None ≡ option_map shown_names copy = same_Some None (option_map shown_names copy) is in
    let some : option_map shown_names copy ≡ Some (shown_names v) = ap (option_map shown_names) there in
    absurd (cc)
few_names (Some found) copy is v there = by_read (peer_names found) refl is
  where
    by_read : (o : Option (List (List ℕ))) → peer_names found ≡ o →
        option_map (λ value. Some value) o ≡ Some (option_map shown_names copy) → length v.items ≤ 1024
    by_read None read h = cc
    by_read (Some names) read h =
        let some : option_map shown_names copy ≡ Some (shown_names v) = ap (option_map shown_names) there in
        let same : names ≡ shown_names v =
        same_Some names (shown_names v) (same_Some (Some names) (option_map shown_names copy) h ∙ some) in
        omega (arith, few_names_at found names read, ap length same, length-map v.items string_bytes)

-- some server takes Access-Requests, or Accounting-Requests, as it is shown
pub auth_shown : (servers : List Server) →
    some_auth (map shown_server servers) ≡ list_any (λ (s : Server). is_some s.auth) servers
auth_shown [] = refl
auth_shown (s ∷ ss) = ap (λ b. is_some s.auth || b) (auth_shown ss)

pub acct_shown : (servers : List Server) →
    some_acct (map shown_server servers) ≡ list_any (λ (s : Server). is_some s.acct) servers
acct_shown [] = refl
acct_shown (s ∷ ss) = ap (λ b. is_some s.acct || b) (acct_shown ss)

-- a table whose servers don't take what is forwarded to them states no realm
pub not_serving : (table : Members) (items : Items) (r : RealmView) (a : Accounting) (servers : List ServerView)
    → value_at (array_of 8) (codes "server") table ≡ Some items →
    accounting (get_member (codes "accounting") table) ≡ Some a → StatesEach StatesServer items servers →
    are_serving a servers ≡ false → StatesRealm table r → ⊥
not_serving table items r a servers there said each none stated =
    let same : r.accounting ≡ a = same_Some r.accounting a (sym stated.accounting ∙ said) in
    let ours : StatesEach StatesServer items r.servers =
    subst (λ (o : Option Items). StatesTables StatesServer o r.servers) there stated.servers in
    let all : r.servers ≡ servers = each_unique StatesServer server_unique items r.servers servers ours each in
    false≢true (sym none ∙ ap (λ x. are_serving x servers) (sym same) ∙ ap (are_serving r.accounting) (sym all)
    ∙ stated.services)

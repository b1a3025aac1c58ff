-- The entries of a realm that goes on are a list as they were: in order of ticket, each of its own key.
use Rattle.std.proofs.Common.{◌≡◌, ◌≢◌, ℕ, zero, suc, ◌<◌, ◌-◌, Bool, true, false, List, [], ◌∷◌, length, nat_lt, Option, Some, None, refl, sym, subst, if◌then◌else◌}
use Rattle.std.specs.List.{AllByRecursion, cons_option, filter_map}
use Rattle.roam_pending.specs.declared.key.Key.{Key}
use Rattle.roam_pending.specs.EntryList.{HasDistinctKeys, IsEntryList, IsInOrder}
use Rattle.roam_pending.specs.PlainEntry.{PlainEntry, is_done}
use Rattle.roam_realm.specs.RealmConfig.{RealmConfig}
use Rattle.roam_migrate.specs.Reload.{entries_then, entry_then, without_done}
use Rattle.roam_migrate.proofs.CarriedEntriesLemmas.{comes_over}

module _ (f : PlainEntry → Option PlainEntry)
    (ticket : (e x : PlainEntry) → f e ≡ Some x → x.ticket ≡ e.ticket)
    (key : (e x : PlainEntry) → f e ≡ Some x → x.request.key ≡ e.request.key) where
  -- what is said of each ticket is said of those that stay
  ticket_by : (P : ℕ → Type 0) (e : PlainEntry) (es : List PlainEntry) (o : Option PlainEntry) → f e ≡ o
      → P e.ticket → AllByRecursion (λ x. P x.ticket) (filter_map f es)
      → AllByRecursion (λ x. P x.ticket) (cons_option o (filter_map f es))
  ticket_by P e es None gives here rest = rest
  ticket_by P e es (Some x) gives here rest = (subst P (sym (ticket e x gives)) here, rest)

  tickets_stay : (P : ℕ → Type 0) (es : List PlainEntry) → AllByRecursion (λ x. P x.ticket) es
      → AllByRecursion (λ x. P x.ticket) (filter_map f es)
  tickets_stay P [] all = tt
  tickets_stay P (e ∷ es) all = ticket_by P e es (f e) refl all.0 (tickets_stay P es all.1)

  -- so it is of each key
  key_by : (P : Key → Type 0) (e : PlainEntry) (es : List PlainEntry) (o : Option PlainEntry) → f e ≡ o
      → P e.request.key → AllByRecursion (λ x. P x.request.key) (filter_map f es)
      → AllByRecursion (λ x. P x.request.key) (cons_option o (filter_map f es))
  key_by P e es None gives here rest = rest
  key_by P e es (Some x) gives here rest = (subst P (sym (key e x gives)) here, rest)

  keys_stay : (P : Key → Type 0) (es : List PlainEntry) → AllByRecursion (λ x. P x.request.key) es
      → AllByRecursion (λ x. P x.request.key) (filter_map f es)
  keys_stay P [] all = tt
  keys_stay P (e ∷ es) all = key_by P e es (f e) refl all.0 (keys_stay P es all.1)

  order_by : (e : PlainEntry) (es : List PlainEntry) (o : Option PlainEntry) → f e ≡ o
      → AllByRecursion (λ x. e.ticket < x.ticket) (filter_map f es) → IsInOrder (filter_map f es)
      → IsInOrder (cons_option o (filter_map f es))
  order_by e es None gives here rest = rest
  order_by e es (Some x) gives here rest = (
    subst (λ (t : ℕ). AllByRecursion (λ y. t < y.ticket) (filter_map f es)) (sym (ticket e x gives)) here,
    rest,
  )

  order_stays : (es : List PlainEntry) → IsInOrder es → IsInOrder (filter_map f es)
  order_stays [] all = tt
  order_stays (e ∷ es) all =
      order_by e es (f e) refl (tickets_stay (λ t. e.ticket < t) es all.0) (order_stays es all.1)

  distinct_by : (e : PlainEntry) (es : List PlainEntry) (o : Option PlainEntry) → f e ≡ o
      → AllByRecursion (λ x. x.request.key ≢ e.request.key) (filter_map f es) → HasDistinctKeys (filter_map f es)
      → HasDistinctKeys (cons_option o (filter_map f es))
  distinct_by e es None gives here rest = rest
  distinct_by e es (Some x) gives here rest = (
    subst (λ (k : Key). AllByRecursion (λ y. y.request.key ≢ k) (filter_map f es)) (sym (key e x gives)) here,
    rest,
  )

  distinct_stay : (es : List PlainEntry) → HasDistinctKeys es → HasDistinctKeys (filter_map f es)
  distinct_stay [] all = tt
  distinct_stay (e ∷ es) all =
      distinct_by e es (f e) refl (keys_stay (λ k. k ≢ e.request.key) es all.0) (distinct_stay es all.1)

-- so it is of those that are left where answered ones make way
all_by : (P : PlainEntry → Type 0) (b : Bool) (n : ℕ) (e : PlainEntry) (es : List PlainEntry)
    → AllByRecursion P (without_done n es) → P e → AllByRecursion P (without_done (suc n) es)
    → AllByRecursion P (if b then without_done n es else e ∷ without_done (suc n) es)
all_by P true n e es gone here rest = gone
all_by P false n e es gone here rest = (here, rest)

all_left : (P : PlainEntry → Type 0) (es : List PlainEntry) (n : ℕ) → AllByRecursion P es
    → AllByRecursion P (without_done n es)
all_left P es zero all = all
all_left P [] (suc n) all = tt
all_left P (e ∷ es) (suc n) all =
    all_by P (is_done e) n e es (all_left P es n all.1) all.0 (all_left P es (suc n) all.1)

order_left_by : (b : Bool) (n : ℕ) (e : PlainEntry) (es : List PlainEntry)
    → IsInOrder (without_done n es) → AllByRecursion (λ x. e.ticket < x.ticket) (without_done (suc n) es)
    → IsInOrder (without_done (suc n) es)
    → IsInOrder (if b then without_done n es else e ∷ without_done (suc n) es)
order_left_by true n e es gone here rest = gone
order_left_by false n e es gone here rest = (here, rest)

order_left : (es : List PlainEntry) (n : ℕ) → IsInOrder es → IsInOrder (without_done n es)
order_left es zero all = all
order_left [] (suc n) all = tt
order_left (e ∷ es) (suc n) all =
    order_left_by (is_done e) n e es (order_left es n all.1) (all_left (λ x. e.ticket < x.ticket) es (suc n) all.0)
    (order_left es (suc n) all.1)

distinct_left_by : (b : Bool) (n : ℕ) (e : PlainEntry) (es : List PlainEntry)
    → HasDistinctKeys (without_done n es)
    → AllByRecursion (λ x. x.request.key ≢ e.request.key) (without_done (suc n) es)
    → HasDistinctKeys (without_done (suc n) es)
    → HasDistinctKeys (if b then without_done n es else e ∷ without_done (suc n) es)
distinct_left_by true n e es gone here rest = gone
distinct_left_by false n e es gone here rest = (here, rest)

distinct_left : (es : List PlainEntry) (n : ℕ) → HasDistinctKeys es → HasDistinctKeys (without_done n es)
distinct_left es zero all = all
distinct_left [] (suc n) all = tt
distinct_left (e ∷ es) (suc n) all =
    distinct_left_by (is_done e) n e es (distinct_left es n all.1)
    (all_left (λ x. x.request.key ≢ e.request.key) es (suc n) all.0) (distinct_left es (suc n) all.1)

few_by : (b : Bool) (n : ℕ) (es : List PlainEntry) → IsEntryList es
    → IsEntryList (if b then without_done n es else es)
few_by true n es list =
    record { in_order = order_left es n list.in_order; distinct_keys = distinct_left es n list.distinct_keys }
few_by false n es list = list

pub list_then : (old new : RealmConfig) (es : List PlainEntry) → IsEntryList es → IsEntryList (entries_then old new es)
list_then old new es list =
    let ticket = λ (e x : PlainEntry) (is : entry_then old new e ≡ Some x). (comes_over old new e x is).ticket in
    let key = λ (e x : PlainEntry) (is : entry_then old new e ≡ Some x). (comes_over old new e x is).key in
    let stay = filter_map (entry_then old new) es in
    few_by (nat_lt new.realm.max_pending old.realm.max_pending) (length stay - new.realm.max_pending) stay (record {
      in_order = order_stays (entry_then old new) ticket key es list.in_order;
      distinct_keys = distinct_stay (entry_then old new) ticket key es list.distinct_keys;
    })

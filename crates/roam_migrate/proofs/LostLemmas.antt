-- What is counted of a realm's entries that go by a change is as many as there are fewer then.
use Rattle.std.proofs.Common.{◌≡◌, ℕ, zero, suc, ◌+◌, ◌-◌, ◌≤◌, ◌&&◌, Bool, true, false, not, List, [], ◌∷◌, Option, Some, None, option_map, refl, sym, ap, ◌∙◌, arith, length, min, is_some, nat_lt, unwrap_or, if◌then◌else◌}
use Rattle.std.specs.List.{cons_option, filter_map}
use Rattle.std.specs.Prelude.{option_and_then}
use Rattle.roam_conf.specs.declared.place.Link.{Link}
use Rattle.roam_pending.specs.PlainEntry.{PlainEntry, PlainRequest, PlainStanding, waiting, done, is_done, stands_done}
use Rattle.roam_realm.specs.RealmConfig.{RealmConfig}
use Rattle.roam_migrate.specs.Losses.{count_held, count_waiting}
use Rattle.roam_migrate.specs.Private.Lost.{counted, held_and_goes, held_lost, one_if, waits_and_goes}
use Rattle.roam_migrate.specs.Reload.{entries_then, entry_of, entry_then, request_then, standing_then, way_then, without_done}
use Rattle.roam_migrate.proofs.LossLemmas.{counted_first}

-- ---- an entry that stays waits where it waited, or is done as it was

waits_on : (o : Option Link) (id : ℕ) (forwarded : List ℕ) (sends_left deadline signs : ℕ) (s : PlainStanding)
    → option_map (λ m. waiting m id forwarded sends_left deadline signs) o ≡ Some s → stands_done s ≡ false
waits_on None id forwarded sends_left deadline signs s is = absurd (cc is)
waits_on (Some m) id forwarded sends_left deadline signs s is =
    let one = waiting m id forwarded sends_left deadline signs in
    let same : one ≡ s = ap (λ (o : Option PlainStanding). unwrap_or o one) is in
    ap stands_done (sym same)

stays_answered : (old new : RealmConfig) (r s : PlainStanding) → standing_then old new r ≡ Some s →
    stands_done s ≡ stands_done r
stays_answered old new (waiting l id forwarded sends_left deadline signs) s is =
    waits_on (way_then old new l) id forwarded sends_left deadline signs s is
stays_answered old new (done reply deadline from) s is =
    let one = done reply deadline (option_and_then (way_then old new) from) in
    let same : one ≡ s = ap (λ (o : Option PlainStanding). unwrap_or o one) is in
    ap stands_done (sym same)

done_as : (old new : RealmConfig) (e x : PlainEntry) (q : Option PlainRequest) (s : Option PlainStanding)
    → standing_then old new e.standing ≡ s → entry_of e.ticket q s ≡ Some x → is_done x ≡ is_done e
done_as old new e x None s stood is = absurd (cc is)
done_as old new e x (Some q) None stood is = absurd (cc is)
done_as old new e x (Some q) (Some s) stood is =
    let one : PlainEntry = record { request = q; ticket = e.ticket; standing = s } in
    let same : one ≡ x = ap (λ (o : Option PlainEntry). unwrap_or o one) is in
    ap is_done (sym same) ∙ stays_answered old new e.standing s stood

stays_done : (old new : RealmConfig) (e x : PlainEntry) → entry_then old new e ≡ Some x → is_done x ≡ is_done e
stays_done old new e x is =
    done_as old new e x (request_then old new e.request) (standing_then old new e.standing) refl is

-- ---- those that go and those that stay are all

one_goes : (old new : RealmConfig) (p : Bool → Bool) (e : PlainEntry) (o : Option PlainEntry) (left : List PlainEntry)
    → entry_then old new e ≡ o
    → counted (λ x. p (is_done x)) (cons_option o left) + one_if (not (is_some (entry_then old new e)) && p (is_done e))
    ≡ one_if (p (is_done e)) + counted (λ x. p (is_done x)) left
one_goes old new p e None left is = rw is (omega arith)
one_goes old new p e (Some x) left is =
    let first = counted_first (λ y. p (is_done y)) x left in
    let same = ap (λ (b : Bool). one_if (p b)) (stays_done old new e x is) in
    rw is (omega (arith, first, same))

all_are : (old new : RealmConfig) (p : Bool → Bool) (es : List PlainEntry)
    → counted (λ x. p (is_done x)) (filter_map (entry_then old new) es)
    + counted (λ e. not (is_some (entry_then old new e)) && p (is_done e)) es
    ≡ counted (λ x. p (is_done x)) es
all_are old new p [] = refl
all_are old new p (e ∷ es) =
    let left = filter_map (entry_then old new) es in
    let one = one_goes old new p e (entry_then old new e) left refl in
    omega (
      arith,
      one,
      counted_first (λ x. not (is_some (entry_then old new x)) && p (is_done x)) e es,
      counted_first (λ x. p (is_done x)) e es,
      all_are old new p es,
    )

two_kinds : (b : Bool) → one_if (not b) + one_if b ≡ 1
two_kinds true = refl
two_kinds false = refl

pub all_entries : (es : List PlainEntry) → count_waiting es + count_held es ≡ length es
all_entries [] = refl
all_entries (e ∷ es) =
    omega (
      arith,
      counted_first (λ x. not (is_done x)) e es,
      counted_first is_done e es,
      two_kinds (is_done e),
      all_entries es,
    )

-- ---- answered ones make way

waiting_stay : (b : Bool) (n : ℕ) (e : PlainEntry) (es : List PlainEntry) → is_done e ≡ b
    → ((n : ℕ) → count_waiting (without_done n es) ≡ count_waiting es)
    → count_waiting (if b then without_done n es else e ∷ without_done (suc n) es) ≡ count_waiting (e ∷ es)
waiting_stay true n e es is rest = rw is (rest n)
waiting_stay false n e es is rest =
    counted_first (λ x. not (is_done x)) e (without_done (suc n) es)
    ∙ ap (λ (k : ℕ). one_if (not (is_done e)) + k) (rest (suc n))
    ∙ sym (counted_first (λ x. not (is_done x)) e es)

waiting_left : (es : List PlainEntry) (n : ℕ) → count_waiting (without_done n es) ≡ count_waiting es
waiting_left es zero = refl
waiting_left [] (suc n) = refl
waiting_left (e ∷ es) (suc n) = waiting_stay (is_done e) n e es refl (waiting_left es)

held_go : (b : Bool) (n : ℕ) (e : PlainEntry) (es : List PlainEntry) → is_done e ≡ b
    → ((n : ℕ) → count_held (without_done n es) ≡ count_held es - n)
    → count_held (if b then without_done n es else e ∷ without_done (suc n) es) ≡ count_held (e ∷ es) - suc n
held_go true n e es is rest =
    let one = counted_first is_done e es ∙ ap (λ (b : Bool). one_if b + count_held es) is in
    omega (arith, rest n, one)
held_go false n e es is rest =
    let one = counted_first is_done e es ∙ ap (λ (b : Bool). one_if b + count_held es) is in
    let left = counted_first is_done e (without_done (suc n) es)
    ∙ ap (λ (b : Bool). one_if b + count_held (without_done (suc n) es)) is in
    omega (arith, rest (suc n), one, left)

held_left : (es : List PlainEntry) (n : ℕ) → count_held (without_done n es) ≡ count_held es - n
held_left es zero = omega arith
held_left [] (suc n) = omega arith
held_left (e ∷ es) (suc n) = held_go (is_done e) n e es refl (held_left es)

-- ---- so are they counted

few_waiting : (b : Bool) (n : ℕ) (es : List PlainEntry) →
    count_waiting (if b then without_done n es else es) ≡ count_waiting es
few_waiting true n es = waiting_left es n
few_waiting false n es = refl

pub waiting_goes : (old new : RealmConfig) (es : List PlainEntry) →
    counted (waits_and_goes old new) es ≡ count_waiting es - count_waiting (entries_then old new es)
waiting_goes old new es =
    let left = filter_map (entry_then old new) es in
    let stay = few_waiting (nat_lt new.realm.max_pending old.realm.max_pending) (length left - new.realm.max_pending)
    left in
    omega (arith, stay, all_are old new not es)

few_held : (b : Bool) (max all held gone waits : ℕ) (left : List PlainEntry)
    → count_held left + gone ≡ held → length left + waits + gone ≡ all
    → (if b then gone + min (all - waits - gone - max) (held - gone) else gone)
    ≡ held - count_held (if b then without_done (length left - max) left else left)
few_held true max all held gone waits left some count =
    omega (arith, held_left left (length left - max), some, count)
few_held false max all held gone waits left some count = omega (arith, some)

pub held_goes : (old new : RealmConfig) (es : List PlainEntry)
    → held_lost old new es (counted (waits_and_goes old new) es) (counted (held_and_goes old new) es)
    ≡ count_held es - count_held (entries_then old new es)
held_goes old new es =
    let left = filter_map (entry_then old new) es in
    let held = all_are old new (λ b. b) es in
    let waits = all_are old new not es in
    let all = all_entries es in
    let stay = all_entries left in
    few_held (nat_lt new.realm.max_pending old.realm.max_pending) new.realm.max_pending (length es) (count_held es)
    (counted (held_and_goes old new) es) (counted (waits_and_goes old new) es) left held
    (omega (arith, held, waits, all, stay))

pub few_go : (old new : RealmConfig) (es : List PlainEntry) → counted (held_and_goes old new) es ≤ count_held es
few_go old new es = omega (arith, all_are old new (λ b. b) es)

-- ---- where fewer may be pending, or not

-- Nothing comes by a change, and what could stay stays.
use Rattle.std.proofs.Common.{◌≡◌, ℕ, zero, suc, ◌-◌, Bool, true, false, List, [], ◌∷◌, length, Option, Some, None, option_map, refl, sym, ap, subst, ◌∙◌, nat_lt, slice_get, unwrap_or, if◌then◌else◌}
use Rattle.std.specs.List.{cons_option, filter_map}
use Rattle.std.specs.Prelude.{option_and_then}
use Rattle.roam_conf.specs.declared.place.Link.{Link}
use Rattle.roam_pending.specs.declared.key.Requester.{Requester}
use Rattle.roam_pending.specs.PlainEntry.{PlainEntry, PlainRequest, PlainStanding, waiting, done, is_done}
use Rattle.roam_realm.specs.RealmConfig.{RealmConfig}
use Rattle.roam_migrate.specs.Reload.{CarriedAddsNothing, CarriedTakesNoMore, ComesOver, SameStanding}
use Rattle.roam_migrate.specs.Reload.{entry_of, entry_then, few_enough, outgrows, request_from, request_then, requester_then, standing_then, way_then, without_done}

-- ---- what stays of a list of which some go

behind : {X : Type 0} (o : Option X) (ys : List X) (x : X) → ((i : ℕ) × (slice_get ys i ≡ Some x))
    → (i : ℕ) × (slice_get (cons_option o ys) i ≡ Some x)
behind None ys x k = k
behind (Some y) ys x k = (suc k.0, k.1)

-- one that the test lets stay is there
stays_at : {X : Type 0} (f : X → Option X) (es : List X) (j : ℕ) (before after : X)
    → slice_get es j ≡ Some before → f before ≡ Some after
    → (i : ℕ) × (slice_get (filter_map f es) i ≡ Some after)
stays_at f [] j before after there stays = absurd (cc there)
stays_at {X = X} f (e ∷ es) zero before after there stays =
    let is : e ≡ before = ap (λ (o : Option X). unwrap_or o e) there in
    (0, ap (λ (o : Option X). slice_get (cons_option o (filter_map f es)) 0) (ap f is ∙ stays))
stays_at f (e ∷ es) (suc j) before after there stays =
    behind (f e) (filter_map f es) after (stays_at f es j before after there stays)

-- where one came from
abbrev CameFrom : {X : Type 0} → (X → Option X) → List X → X → Type 0
CameFrom {X} f es after =
    (j : ℕ) × (before : X) × (slice_get es j ≡ Some before) × (f before ≡ Some after)

one_on : {X : Type 0} (f : X → Option X) (e : X) (es : List X) (after : X)
    → CameFrom f es after → CameFrom f (e ∷ es) after
one_on f e es after k = (suc k.0, k.1, k.2, k.3)

first_came : {X : Type 0} (f : X → Option X) (e : X) (es : List X) (o : Option X) → f e ≡ o
    → ((i : ℕ) (after : X) → slice_get (filter_map f es) i ≡ Some after → CameFrom f es after)
    → (i : ℕ) (after : X) → slice_get (cons_option o (filter_map f es)) i ≡ Some after
    → CameFrom f (e ∷ es) after
first_came f e es None gives rest i after at = one_on f e es after (rest i after at)
first_came {X = X} f e es (Some x) gives rest zero after at = (0, e, refl, gives ∙ at)
first_came f e es (Some x) gives rest (suc i) after at = one_on f e es after (rest i after at)

came_from : {X : Type 0} (f : X → Option X) (es : List X) (i : ℕ) (after : X)
    → slice_get (filter_map f es) i ≡ Some after → CameFrom f es after
came_from f [] i after at = absurd (cc at)
came_from f (e ∷ es) i after at = first_came f e es (f e) refl (came_from f es) i after at

-- ---- answered ones make way

abbrev IsAt : List PlainEntry → PlainEntry → Type 0
IsAt es x = (j : ℕ) × (slice_get es j ≡ Some x)

next_at : (e : PlainEntry) (es : List PlainEntry) (x : PlainEntry) → IsAt es x → IsAt (e ∷ es) x
next_at e es x k = (suc k.0, k.1)

done_by : (b : Bool) (n : ℕ) (e : PlainEntry) (es : List PlainEntry)
    → ((n : ℕ) (i : ℕ) (x : PlainEntry) → slice_get (without_done n es) i ≡ Some x → IsAt es x)
    → (i : ℕ) (x : PlainEntry)
    → slice_get (if b then without_done n es else e ∷ without_done (suc n) es) i ≡ Some x → IsAt (e ∷ es) x
done_by true n e es rest i x at = next_at e es x (rest n i x at)
done_by false n e es rest zero x at = (0, at)
done_by false n e es rest (suc i) x at = next_at e es x (rest (suc n) i x at)

done_left : (es : List PlainEntry) (n : ℕ) (i : ℕ) (x : PlainEntry)
    → slice_get (without_done n es) i ≡ Some x → IsAt es x
done_left es zero i x at = (i, at)
done_left [] (suc n) i x at = (i, at)
done_left (e ∷ es) (suc n) i x at = done_by (is_done e) n e es (done_left es) i x at

few_by : (b : Bool) (n : ℕ) (es : List PlainEntry) (i : ℕ) (x : PlainEntry)
    → slice_get (if b then without_done n es else es) i ≡ Some x → IsAt es x
few_by true n es i x at = done_left es n i x at
few_by false n es i x at = (i, at)

few_left : (old new : RealmConfig) (es : List PlainEntry) (i : ℕ) (x : PlainEntry)
    → slice_get (few_enough old new es) i ≡ Some x → IsAt es x
few_left old new es =
    few_by (nat_lt new.realm.max_pending old.realm.max_pending) (length es - new.realm.max_pending) es

-- ---- what comes over is what was there

request_by : (b : Bool) (q : PlainRequest) (o : Option Requester) (p : PlainRequest)
    → (if b then None else option_map (request_from q) o) ≡ Some p
    → (r : Requester) × (o ≡ Some r) × (p ≡ request_from q r)
request_by true q o p is = absurd (cc is)
request_by false q None p is = absurd (cc is)
request_by false q (Some r) p is =
    (r, refl, sym (ap (λ (m : Option PlainRequest). unwrap_or m (request_from q r)) is))

waiting_by :
    (o : Option Link) (l : Link) (id : ℕ) (forwarded : List ℕ) (sends_left deadline signs : ℕ)
    (s : PlainStanding)
    → option_map (λ m. waiting m id forwarded sends_left deadline signs) o ≡ Some s
    → SameStanding (waiting l id forwarded sends_left deadline signs) s
waiting_by None l id forwarded sends_left deadline signs s is = absurd (cc is)
waiting_by (Some m) l id forwarded sends_left deadline signs s is =
    let one = waiting m id forwarded sends_left deadline signs in
    let same : one ≡ s = ap (λ (o : Option PlainStanding). unwrap_or o one) is in
    subst (SameStanding (waiting l id forwarded sends_left deadline signs)) same (refl, refl, refl, refl, refl)

standing_by : (old new : RealmConfig) (before s : PlainStanding)
    → standing_then old new before ≡ Some s → SameStanding before s
standing_by old new (waiting l id forwarded sends_left deadline signs) s is =
    waiting_by (way_then old new l) l id forwarded sends_left deadline signs s is
standing_by old new (done reply deadline from) s is =
    let one = done reply deadline (option_and_then (way_then old new) from) in
    let same : one ≡ s = ap (λ (o : Option PlainStanding). unwrap_or o one) is in
    subst (SameStanding (done reply deadline from)) same (refl, refl)

comes_by : (old new : RealmConfig) (before after : PlainEntry) (q : Option PlainRequest) (s : Option PlainStanding)
    → request_then old new before.request ≡ q → standing_then old new before.standing ≡ s
    → entry_of before.ticket q s ≡ Some after → ComesOver old new before after
comes_by old new before after None None asked stood is = absurd (cc is)
comes_by old new before after None (Some s) asked stood is = absurd (cc is)
comes_by old new before after (Some q) None asked stood is = absurd (cc is)
comes_by old new before after (Some q) (Some s) asked stood is =
    let one : PlainEntry = record { request = q; ticket = before.ticket; standing = s } in
    let same : one ≡ after = ap (λ (o : Option PlainEntry). unwrap_or o one) is in
    let from = request_by (outgrows old new before.request before.request.requester) before.request
    (requester_then old new before.request.key before.request.requester) q asked in
    subst (ComesOver old new before) same (record {
      ticket = refl;
      key = ap (λ (p : PlainRequest). p.key) from.2;
      octets = ap (λ (p : PlainRequest). p.octets) from.2;
      requester = from.1 ∙ sym (ap (λ (p : PlainRequest). Some p.requester) from.2);
      standing = standing_by old new before.standing s stood;
    })

pub comes_over : (old new : RealmConfig) (before after : PlainEntry)
    → entry_then old new before ≡ Some after → ComesOver old new before after
comes_over old new before after is =
    comes_by old new before after (request_then old new before.request) (standing_then old new before.standing)
    refl refl is

-- ---- the laws

pub carried_adds_nothing : CarriedAddsNothing
carried_adds_nothing old new s i after at =
    let left = few_left old new (filter_map (entry_then old new) s.entries) i after at in
    let came = came_from (entry_then old new) s.entries left.0 after left.1 in
    (came.0, came.1, came.2, comes_over old new came.1 after came.3)

pub carried_takes_no_more : CarriedTakesNoMore
carried_takes_no_more old new s j before after as_many there stays =
    let k = stays_at (entry_then old new) s.entries j before after there stays in
    (k.0, rw as_many k.1)

-- What is carried over by a change was there before, entry by entry.
use Rattle.std.proofs.Common.{◌≡◌, ℕ, zero, suc, ◌-◌, Bool, true, false, List, [], ◌∷◌, length, Option, Some, None, option_map, refl, ap, subst, nat_lt, unwrap_or, if◌then◌else◌}
use Rattle.std.specs.List.{AllByRecursion, cons_option, filter_map}
use Rattle.roam_pending.specs.declared.key.Requester.{Requester}
use Rattle.roam_pending.specs.PlainEntry.{PlainEntry, PlainRequest, PlainStanding, is_done}
use Rattle.roam_realm.specs.RealmConfig.{RealmConfig}
use Rattle.roam_migrate.specs.Reload.{entries_then, entry_of, entry_then, outgrows, request_from, request_then, requester_then, standing_then, without_done}

-- ---- what holds of each that was there

all-kept :
    {X : Type 0} (P Q : X → Type 0) (x : X) (o : Option X) (ys : List X) → P x
    → ((y : X) → o ≡ Some y → P x → Q y) → AllByRecursion Q ys → AllByRecursion Q (cons_option o ys)
all-kept P Q x None ys here gives rest = rest
all-kept P Q x (Some y) ys here gives rest = (gives y refl here, rest)

all-filter_map :
    {X : Type 0} (P Q : X → Type 0) (f : X → Option X) (xs : List X)
    → ((x y : X) → f x ≡ Some y → P x → Q y) → AllByRecursion P xs → AllByRecursion Q (filter_map f xs)
all-filter_map P Q f [] gives h = tt
all-filter_map P Q f (x ∷ xs) gives h =
    all-kept P Q x (f x) (filter_map f xs) h.0 (gives x) (all-filter_map P Q f xs gives h.1)

done-by :
    (Q : PlainEntry → Type 0) (b : Bool) (n : ℕ) (e : PlainEntry) (es : List PlainEntry) → Q e
    → ((n : ℕ) → AllByRecursion Q (without_done n es))
    → AllByRecursion Q (if b then without_done n es else e ∷ without_done (suc n) es)
done-by Q true n e es here rest = rest n
done-by Q false n e es here rest = (here, rest (suc n))

all-without_done :
    (Q : PlainEntry → Type 0) (es : List PlainEntry) → AllByRecursion Q es → (n : ℕ)
    → AllByRecursion Q (without_done n es)
all-without_done Q es h zero = h
all-without_done Q [] h (suc n) = tt
all-without_done Q (e ∷ es) h (suc n) = done-by Q (is_done e) n e es h.0 (all-without_done Q es h.1)

few-by :
    (Q : PlainEntry → Type 0) (b : Bool) (n : ℕ) (es : List PlainEntry) → AllByRecursion Q es
    → AllByRecursion Q (if b then without_done n es else es)
few-by Q true n es h = all-without_done Q es h n
few-by Q false n es h = h

pub all-carried :
    (P Q : PlainEntry → Type 0) (old new : RealmConfig) (es : List PlainEntry)
    → ((before after : PlainEntry) → entry_then old new before ≡ Some after → P before → Q after)
    → AllByRecursion P es → AllByRecursion Q (entries_then old new es)
all-carried P Q old new es gives h =
    let left = filter_map (entry_then old new) es in
    few-by Q (nat_lt new.realm.max_pending old.realm.max_pending) (length left - new.realm.max_pending) left
    (all-filter_map P Q (entry_then old new) es gives h)

-- ---- an entry that stays is that of a request and of a standing that do

pub record CameOver (old new : RealmConfig) (before after : PlainEntry) : Type 0 where
  pub ticket : after.ticket ≡ before.ticket
  pub request : request_then old new before.request ≡ Some after.request
  pub standing : standing_then old new before.standing ≡ Some after.standing

over-by :
    (old new : RealmConfig) (before after : PlainEntry) (q : Option PlainRequest) (s : Option PlainStanding)
    → request_then old new before.request ≡ q → standing_then old new before.standing ≡ s
    → entry_of before.ticket q s ≡ Some after → CameOver old new before after
over-by old new before after None s asked stood is = absurd (cc is)
over-by old new before after (Some q) None asked stood is = absurd (cc is)
over-by old new before after (Some q) (Some s) asked stood is =
    let one : PlainEntry = record { request = q; ticket = before.ticket; standing = s } in
    let same : one ≡ after = ap (λ (o : Option PlainEntry). unwrap_or o one) is in
    subst (CameOver old new before) same (record { ticket = refl; request = asked; standing = stood })

pub came-over : (old new : RealmConfig) (before after : PlainEntry) → entry_then old new before ≡ Some after →
    CameOver old new before after
came-over old new before after is =
    over-by old new before after (request_then old new before.request) (standing_then old new before.standing)
    refl refl is

-- ---- its key and its octets stay

pub record IsSameRequest (before after : PlainRequest) : Type 0 where
  pub key : after.key ≡ before.key
  pub octets : after.octets ≡ before.octets

request-by :
    (b : Bool) (q : PlainRequest) (o : Option Requester) (p : PlainRequest)
    → (if b then None else option_map (request_from q) o) ≡ Some p → IsSameRequest q p
request-by true q o p is = absurd (cc is)
request-by false q None p is = absurd (cc is)
request-by false q (Some r) p is =
    let same : request_from q r ≡ p = ap (λ (o : Option PlainRequest). unwrap_or o (request_from q r)) is in
    subst (IsSameRequest q) same (record { key = refl; octets = refl })

pub request-stays : (old new : RealmConfig) (before after : PlainRequest) →
    request_then old new before ≡ Some after → IsSameRequest before after
request-stays old new before after is =
    request-by (outgrows old new before before.requester) before
    (requester_then old new before.key before.requester) after is

-- For which ports packets are listed, when what waits for one of them changes.
use Rattle.std.proofs.Common.{◌≡◌, ◌≢◌, ℕ, zero, suc, ◌+◌, ◌<◌, ◌≤◌, List, [], ◌∷◌, ◌++◌, length, Bool, true, false}
use Rattle.std.proofs.Common.{Option, Some, None, option_map, inl, inr}
use Rattle.std.proofs.Common.{get_or, unwrap_or, refl, ap, sym, ◌∙◌, subst, arith}
use Rattle.std.specs.Prelude.{slice_get}
use Rattle.std.specs.List.{AllByRecursion}
use Rattle.std.proofs.Math.ListN.{set, length-set}
use Rattle.std.proofs.lemmas.Bool.{cases_eq}
use Rattle.std.proofs.lemmas.List.{get_or-set_same}
use Rattle.std.proofs.lemmas.Option.{slice_get-get_or}
use Rattle.roam_port.specs.Outbox.{idle_of, share_in, waiting_of}
use Rattle.roam_port.specs.Port.{PortCall}
use Rattle.roam_port.specs.PortQueue.{Drains, after_put, is_aside, is_idle, is_listed}
use Rattle.roam_port.specs.Queues.{AreListed, AreMore, AtPort, IsNotIn, IsUnused, SendsAt, SendsOne, count_listed}
use Rattle.roam_port.specs.Queues.{listed_one}
use Rattle.roam_port.specs.declared.account.Account.{Account}
use Rattle.roam_port.specs.declared.port_queue.PortQueue.{PortQueue}
use Rattle.roam_port.specs.declared.sent.Sent.{Sent}
use Rattle.roam_port.specs.declared.port_queue.Standing.{Standing}
use Rattle.roam_port.specs.declared.port_queue.Standing.TheVariants as standing

pub get-set_other : {X : Type 0} (xs : List X) (i q : ℕ) (a : X) → q ≢ i
    → slice_get (set xs i a) q ≡ slice_get xs q
get-set_other [] zero q a ne = refl
get-set_other [] (suc i) q a ne = refl
get-set_other (x ∷ xs) zero zero a ne = absurd (ne refl)
get-set_other (x ∷ xs) zero (suc q) a ne = refl
get-set_other (x ∷ xs) (suc i) zero a ne = refl
get-set_other (x ∷ xs) (suc i) (suc q) a ne = get-set_other xs i q a (λ is. ne (ap suc is))

pub get-set_same : {X : Type 0} (xs : List X) (i : ℕ) (a : X) → i < length xs
    → slice_get (set xs i a) i ≡ Some a
get-set_same xs i a lt =
    slice_get-get_or (set xs i a) i a (omega (arith, length-set xs i a))
    ∙ ap Some (get_or-set_same xs i a a lt)

pub get-read : {X : Type 0} (xs : List X) (i : ℕ) (a : X) → i < length xs → a ≡ get_or xs i a
    → slice_get xs i ≡ Some a
get-read xs i a lt is = slice_get-get_or xs i a lt ∙ ap Some (sym is)

pub get-within : {X : Type 0} (xs : List X) (i : ℕ) (a : X) → slice_get xs i ≡ Some a → i < length xs
get-within [] i a at = absurd (let bad : None ≡ Some a = at in cc)
get-within (x ∷ xs) zero a at = omega arith
get-within (x ∷ xs) (suc i) a at = let less = get-within xs i a at in omega arith

pub is_some : {X : Type 0} (x y : X) → Some x ≡ Some y → x ≡ y
is_some x y same = ap (λ o. unwrap_or o x) same

-- an item became another one
pub at_set : {X : Type 0} (Becomes : X → X → Type 0) (xs : List X) (i : ℕ) (before after : X)
    → i < length xs → before ≡ get_or xs i before → Becomes before after → AtPort Becomes xs (set xs i after) i
at_set Becomes xs i before after lt at becomes = record {
  before = before;
  before_is = get-read xs i before lt at;
  after = after;
  becomes = becomes;
  others_stay = refl;
}

pub listed_at_most : (s : Standing) → listed_one s ≤ 1
listed_at_most standing.Idle = omega arith
listed_at_most standing.Listed = omega arith
listed_at_most standing.Aside = omega arith

module _ {A : Type 0} where
  count_within : (qs : List (PortQueue A)) → count_listed qs ≤ length qs
  count_within [] = omega arith
  count_within (q ∷ qs) = let one = listed_at_most q.standing in let more = count_within qs in omega arith

  -- one of them isn't listed, so there is room for it
  pub count_room : (qs : List (PortQueue A)) (k : ℕ) (q : PortQueue A) → slice_get qs k ≡ Some q
      → q.standing ≢ standing.Listed → count_listed qs < length qs
  count_room [] k q at not = absurd (let bad : None ≡ Some q = at in cc)
  count_room (p ∷ ps) zero q at not =
      let same = ap (λ (q : PortQueue A). listed_one q.standing) (is_some p q at) in
      let none : listed_one p.standing ≡ 0 = same ∙ not_one q.standing not in
      let more = count_within ps in
      omega arith
    where
      not_one : (s : Standing) → s ≢ standing.Listed → listed_one s ≡ 0
      not_one standing.Idle ne = refl
      not_one standing.Aside ne = refl
      not_one standing.Listed ne = absurd (ne refl)
  count_room (p ∷ ps) (suc k) q at not =
      let one = listed_at_most p.standing in
      let more = count_room ps k q at not in
      omega arith

  -- what one of them counts is exchanged
  pub count_set : (qs : List (PortQueue A)) (k : ℕ) (q q2 : PortQueue A) → slice_get qs k ≡ Some q
      → count_listed (set qs k q2) + listed_one q.standing ≡ count_listed qs + listed_one q2.standing
  count_set [] k q q2 at = absurd (let bad : None ≡ Some q = at in cc)
  count_set (p ∷ ps) zero q q2 at =
      let same = ap (λ (q : PortQueue A). listed_one q.standing) (is_some p q at) in
      omega arith
  count_set (p ∷ ps) (suc k) q q2 at = let more = count_set ps k q q2 at in omega arith

  count_unused : (share : ℕ) (more : List (PortQueue A)) → AllByRecursion (IsUnused share) more → count_listed more ≡ 0
  count_unused share [] all = refl
  count_unused share (m ∷ ms) all =
      let none : listed_one m.standing ≡ 0 = ap listed_one all.0.idle in
      let rest = count_unused share ms all.1 in
      omega arith

  pub count_more : (share : ℕ) (qs more : List (PortQueue A)) → AllByRecursion (IsUnused share) more
      → count_listed (qs ++ more) ≡ count_listed qs
  count_more share [] more all = count_unused share more all
  count_more share (q ∷ qs) more all = ap (λ n. listed_one q.standing + n) (count_more share qs more all)

  unused_at : (share : ℕ) (more : List (PortQueue A)) (k : ℕ) (q : PortQueue A)
      → AllByRecursion (IsUnused share) more → slice_get more k ≡ Some q → q.standing ≡ standing.Idle
  unused_at share [] k q all at = absurd (let bad : None ≡ Some q = at in cc)
  unused_at share (m ∷ ms) zero q all at = ap (λ (q : PortQueue A). q.standing) (sym (is_some m q at)) ∙ all.0.idle
  unused_at share (m ∷ ms) (suc k) q all at = unused_at share ms k q all.1 at

  -- what is listed is listed among the first
  pub listed_before : (share : ℕ) (qs more : List (PortQueue A)) (k : ℕ) (q : PortQueue A)
      → AllByRecursion (IsUnused share) more → slice_get (qs ++ more) k ≡ Some q → q.standing ≡ standing.Listed
      → slice_get qs k ≡ Some q
  listed_before share [] more k q all at is =
      absurd (let bad : standing.Idle ≡ standing.Listed = sym (unused_at share more k q all at) ∙ is in cc)
  listed_before share (p ∷ ps) more zero q all at is = at
  listed_before share (p ∷ ps) more (suc k) q all at is = listed_before share ps more k q all at is

not_in_init : (k m : ℕ) (ns : List ℕ) → IsNotIn k (ns ++ m ∷ []) → IsNotIn k ns
not_in_init k m [] absent = tt
not_in_init k m (n ∷ ns) absent = (absent.0, not_in_init k m ns absent.1)

not_last : (k m : ℕ) (ns : List ℕ) → IsNotIn k (ns ++ m ∷ []) → k ≢ m
not_last k m [] absent = absent.0
not_last k m (n ∷ ns) absent = not_last k m ns absent.1

not_in_push : (k m : ℕ) (ns : List ℕ) → k ≢ m → IsNotIn k ns → IsNotIn k (ns ++ m ∷ [])
not_in_push k m [] ne absent = (ne, tt)
not_in_push k m (n ∷ ns) ne absent = (absent.0, not_in_push k m ns ne absent.1)

-- a port that isn't there has no room
pub room_within : {A : Type 0} (qs : List (PortQueue A)) (k : ℕ)
    → (length (waiting_of (slice_get qs k)) ≡ share_in (slice_get qs k) → ⊥) → k < length qs
room_within [] k room = absurd (room refl)
room_within (q ∷ qs) zero room = omega arith
room_within (q ∷ qs) (suc k) room = let more = room_within qs k room in omega arith

pub room_is : {A : Type 0} (qs : List (PortQueue A)) (k : ℕ) (q : PortQueue A) → slice_get qs k ≡ Some q
    → (length (waiting_of (slice_get qs k)) ≡ share_in (slice_get qs k) → ⊥) → length q.waiting.items ≢ q.share
room_is qs k q at room full =
    room (ap (λ o. length (waiting_of o)) at ∙ full ∙ sym (ap share_in at))

-- how the packets stand that wait for a port of which there is word
pub standing_is : {A : Type 0} (qs : List (PortQueue A)) (k : ℕ) (q : PortQueue A) (s : Standing)
    → slice_get qs k ≡ Some q → option_map (λ (q : PortQueue A). q.standing) (slice_get qs k) ≡ Some s → q.standing ≡ s
standing_is {A} qs k q s at is =
    is_some q.standing s (sym (ap (option_map (λ (q : PortQueue A). q.standing)) at) ∙ is)

pub idle_is : {A : Type 0} (qs : List (PortQueue A)) (k : ℕ) (q : PortQueue A) (b : Bool)
    → slice_get qs k ≡ Some q → idle_of (slice_get qs k) ≡ b → is_idle q.standing ≡ b
idle_is qs k q b at is = sym (ap idle_of at) ∙ is

pub from_idle : (s : Standing) → is_idle s ≡ true → s ≡ standing.Idle
from_idle standing.Idle is = refl
from_idle standing.Listed is = absurd (let bad : false ≡ true = is in cc)
from_idle standing.Aside is = absurd (let bad : false ≡ true = is in cc)

pub from_listed : (s : Standing) → is_listed s ≡ true → s ≡ standing.Listed
from_listed standing.Listed is = refl
from_listed standing.Idle is = absurd (let bad : false ≡ true = is in cc)
from_listed standing.Aside is = absurd (let bad : false ≡ true = is in cc)

pub after_same : (s : Standing) → is_idle s ≡ false → after_put s ≡ s
after_same standing.Listed is = refl
after_same standing.Aside is = refl
after_same standing.Idle is = absurd (let bad : true ≡ false = is in cc)

not_listed : (s t : Standing) → s ≡ t → listed_one t ≡ 0 → s ≢ standing.Listed
not_listed s t is none listed =
    let one : listed_one t ≡ 1 = ap listed_one (sym is ∙ listed) in
    omega arith

pub idle_unlisted : (s : Standing) → s ≡ standing.Idle → s ≢ standing.Listed
idle_unlisted s is = not_listed s standing.Idle is refl

pub aside_unlisted : (s : Standing) → s ≡ standing.Aside → s ≢ standing.Listed
aside_unlisted s is = not_listed s standing.Aside is refl

module _ {A : Type 0} (qs : List (PortQueue A)) (k : ℕ) (q q2 : PortQueue A) (at : slice_get qs k ≡ Some q) where
  others : (ns ms : List ℕ) → AreListed qs ns → (q2.standing ≡ standing.Listed → IsNotIn k ms → ⊥)
      → ((j : ℕ) → j ≢ k → IsNotIn j ms → IsNotIn j ns) → AreListed (set qs k q2) ms
  others ns ms all own keeps j p there is = elim (cases_eq j k) as (λ _. IsNotIn j ms → ⊥) [
    | inl same ↦
        let new : slice_get (set qs k q2) j ≡ Some q2 =
        ap (slice_get (set qs k q2)) same ∙ get-set_same qs k q2 (get-within qs k q at) in
        let p_is : q2 ≡ p = is_some q2 p (sym new ∙ there) in
        subst (λ n. IsNotIn n ms → ⊥) (sym same) (own (ap (λ (q : PortQueue A). q.standing) p_is ∙ is))
    | inr other ↦ λ absent. all j p (sym (get-set_other qs k j q2 other) ∙ there) is (keeps j other absent)
  ]

  -- it is listed now
  pub set_listed : (ns ms : List ℕ) → ms ≡ ns ++ k ∷ [] → AreListed qs ns → AreListed (set qs k q2) ms
  set_listed ns ms more all = others ns ms all
      (λ _ absent. not_last k k ns (subst (IsNotIn k) more absent) refl)
      (λ j ne absent. not_in_init j k ns (subst (IsNotIn j) more absent))

  -- it is listed as before
  pub set_same : (ns : List ℕ) → q2.standing ≡ q.standing → AreListed qs ns → AreListed (set qs k q2) ns
  set_same ns same all = others ns ns all (λ is. all k q at (sym same ∙ is)) (λ j ne absent. absent)

  -- it is listed no more
  set_left : (ns ms : List ℕ) → ns ≡ ms ++ k ∷ [] → q2.standing ≢ standing.Listed → AreListed qs ns
      → AreListed (set qs k q2) ms
  set_left ns ms more not all = others ns ms all (λ is. absurd (not is))
      (λ j ne absent. subst (IsNotIn j) (sym more) (not_in_push j k ms ne absent))

-- it wasn't listed
skip_left : {A : Type 0} (qs : List (PortQueue A)) (k : ℕ) (ns ms : List ℕ) → ns ≡ ms ++ k ∷ []
    → ((q : PortQueue A) → slice_get qs k ≡ Some q → q.standing ≢ standing.Listed)
    → AreListed qs ns → AreListed qs ms
skip_left qs k ns ms more not all j p there is = elim (cases_eq j k) as (λ _. IsNotIn j ms → ⊥) [
  | inl same ↦ absurd (not p (ap (slice_get qs) (sym same) ∙ there) is)
  | inr other ↦ λ absent. all j p there is (subst (IsNotIn j) (sym more) (not_in_push j k ms other absent))
]

-- none is left
pub none_left : {A : Type 0} (qs : List (PortQueue A)) (ns : List ℕ) → length ns ≡ 0 → AreListed qs ns → (k : ℕ)
    → option_map (λ (q : PortQueue A). q.standing) (slice_get qs k) ≢ Some standing.Listed
none_left {A} qs ns none all k is = by_case (slice_get qs k) refl
  where
    nothing : (ns : List ℕ) → length ns ≡ 0 → IsNotIn k ns
    nothing [] none = tt
    nothing (n ∷ ns) none = absurd (omega (arith, none))

    by_case : (o : Option (PortQueue A)) → slice_get qs k ≡ o → ⊥
    by_case None at =
        let bad : None ≡ Some standing.Listed = sym (ap (option_map (λ (q : PortQueue A). q.standing)) at) ∙ is in
        absurd cc
    by_case (Some q) at = all k q at (standing_is qs k q standing.Listed at is) (nothing ns none)

-- further ports came in, for which nothing is listed
module _ {A : Type 0} (share : ℕ) (old new : List (PortQueue A)) (more : AreMore share old new) where
  pub more_listed : (ns : List ℕ) → AreListed old ns → AreListed new ns
  more_listed ns all k q at is =
      let there = ap (λ qs. slice_get qs k) (sym more.behind) ∙ at in
      all k q (listed_before share old more.more k q more.unused there is) is

  pub more_counted : count_listed new ≡ count_listed old
  more_counted = ap count_listed more.behind ∙ count_more share old more.more more.unused

-- what waited for a port was sent
module _ {A P : Type 0} (hands : P → P → PortCall → Type 0) (k : ℕ) (ports ports2 : List P)
    (qs qs2 : List (PortQueue A)) (account account2 : Account) (sent : Sent) where
  drained : (one : SendsOne hands k ports ports2 qs qs2 account account2 sent)
      → one.queue_after.standing ≢ standing.Listed
  drained one = elim one.drains.ends as (λ _. one.queue_after.standing ≢ standing.Listed) [
    | inl emptied ↦ idle_unlisted one.queue_after.standing emptied.idle
    | inr blocked ↦ aside_unlisted one.queue_after.standing blocked.aside
  ]

  pub sent_listed : SendsAt hands k ports ports2 qs qs2 account account2 sent → (ns ms : List ℕ) → ns ≡ ms ++ k ∷ []
      → AreListed qs ns → AreListed qs2 ms
  sent_listed sends ns ms left all = elim sends as (λ _. AreListed qs2 ms) [
    | inl one ↦ subst (λ x. AreListed x ms) (sym one.other_queues_stay)
        (set_left qs k one.queue one.queue_after one.queue_is ns ms left (drained one) all)
    | inr none ↦ subst (λ x. AreListed x ms) (sym none.queues_stay) (skip_left qs k ns ms left none.not_listed all)
  ]

  pub sent_counted : SendsAt hands k ports ports2 qs qs2 account account2 sent → count_listed qs ≤ count_listed qs2 + 1
  sent_counted sends = elim sends as (λ _. count_listed qs ≤ count_listed qs2 + 1) [
    | inl one ↦
        let counts = count_set qs k one.queue one.queue_after one.queue_is in
        let was : listed_one one.queue.standing ≡ 1 = ap listed_one one.listed in
        let now = ap count_listed one.other_queues_stay in
        omega arith
    | inr none ↦ let same = ap count_listed none.queues_stay in omega arith
  ]

-- what waited for a port that is listed was handed to it
pub sends_one : {A P : Type 0} (hands : P → P → PortCall → Type 0) (k : ℕ) (ports : List P) (qs : List (PortQueue A))
    (account account2 : Account) (q1 q q2 : PortQueue A) (p p2 : P) (gone : ℕ) (blocked : Bool)
    → k < length qs → length qs ≤ length ports
    → q1 ≡ get_or qs k q1 → is_listed q1.standing ≡ true → q ≡ get_or qs k q → p ≡ get_or ports k p
    → Drains hands (get_or ports k p) p2 q q2 account account2 gone → q2.share ≡ q.share
    → blocked ≡ is_aside q2.standing
    → SendsAt hands k ports (set ports k p2) qs (set qs k q2) account account2
    (record { gone = gone; is_blocked = blocked })
sends_one {A} hands k ports qs account account2 q1 q q2 p p2 gone blocked within enough first listed at port drains
    share aside =
    let queue_is = get-read qs k q within at in
    let same : q1 ≡ q = is_some q1 q (sym (get-read qs k q1 within first) ∙ queue_is) in
    inl (record {
      queue = q;
      queue_after = q2;
      port = p;
      port_after = p2;
      queue_is = queue_is;
      listed = from_listed q.standing (subst (λ (q : PortQueue A). is_listed q.standing ≡ true) same listed);
      port_is = get-read ports k p (omega arith) port;
      drains = subst (λ x. Drains hands x p2 q q2 account account2 gone) (sym port) drains;
      share_stays = share;
      blocked = aside;
      other_queues_stay = refl;
      other_ports_stay = refl;
    })

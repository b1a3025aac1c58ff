-- The servers of a service, the list of them that is turned, and the links of such a list.
use Rattle.std.proofs.Common.{◌≡◌, ℕ, suc, zero, ◌+◌, ◌<◌, ◌≤◌, Bool, true, false, List, [], ◌∷◌, ◌++◌, Option, Some, None, refl, ap, sym, ◌∙◌, arith, length, drop, take, is_some}
use Rattle.std.specs.Prelude.{◌==◌, if◌then◌else◌, slice_get}
use Rattle.std.specs.List.{AllByRecursion, find}
use Rattle.std.specs.Option.{option_and_then, option_or}
use Rattle.std.proofs.lemmas.Option.{slice_get_within}
use Rattle.roam_conf.specs.Config.{ServerView}
use Rattle.roam_conf.specs.declared.place.Link.{Link}
use Rattle.roam_pending.proofs.TestLemmas.{all-append}
use Rattle.roam_realm.specs.RealmConfig.{RealmConfig, IsLink, server_link, service_at, ways_to}
use Rattle.roam_realm.specs.ServerOrder.{behind, links_to, places_of, server_ways, turned}
use Rattle.roam_realm.specs.declared.service.Service.{Service}
use Rattle.roam_realm.proofs.WaysToLemmas.{find-append, server-is, ways-to-are}

-- ---- a list from a place on

pub from-next : (xs : List ℕ) (n x : ℕ) → slice_get xs n ≡ Some x → drop n xs ≡ x ∷ drop (suc n) xs
from-next [] n x at = cc
from-next (y ∷ ys) zero x at = let same : y ≡ x = cc in rw same refl
from-next (y ∷ ys) (suc n) x at = from-next ys n x at

pub element : (xs : List ℕ) (n : ℕ) → n < length xs → (x : ℕ) × (slice_get xs n ≡ Some x)
element [] n within = absurd (omega (arith, within))
element (x ∷ xs) zero within = (x, refl)
element (x ∷ xs) (suc n) within = element xs n (omega (arith, within))

pub nothing-left : (xs : List ℕ) (n : ℕ) → length xs ≤ n → drop n xs ≡ []
nothing-left [] zero past = refl
nothing-left [] (suc n) past = refl
nothing-left (x ∷ xs) zero past = absurd (omega (arith, past))
nothing-left (x ∷ xs) (suc n) past = nothing-left xs n (omega (arith, past))

-- ---- a turned list

both-count : (xs : List ℕ) (k : ℕ) → length (drop k xs ++ take k xs) ≡ length xs
both-count xs zero = append-none xs
  where
    append-none : (ys : List ℕ) → length (ys ++ []) ≡ length ys
    append-none [] = refl
    append-none (y ∷ ys) = ap suc (append-none ys)
both-count [] (suc k) = refl
both-count (x ∷ xs) (suc k) = one-more (drop k xs) (take k xs) ∙ ap suc (both-count xs k)
  where
    one-more : (ys zs : List ℕ) → length (ys ++ x ∷ zs) ≡ suc (length (ys ++ zs))
    one-more [] zs = refl
    one-more (y ∷ ys) zs = ap suc (one-more ys zs)

pub turned-count : (start : ℕ) (xs : List ℕ) → length (turned start xs) ≡ length xs
turned-count start xs = both-count xs start

-- ---- the servers of a service

pub places-next : (asked : Service) (servers : List ServerView) (from place : ℕ) (b : Bool) → place < length servers
    → ((s : ServerView) → slice_get servers place ≡ Some s → b ≡ is_some (service_at asked s))
    → places_of asked (from + place) (drop place servers)
    ≡ (if b then (from + place) ∷ places_of asked (from + place + 1) (drop (suc place) servers)
    else places_of asked (from + place + 1) (drop (suc place) servers))
places-next asked [] from place b within serves = absurd (omega (arith, within))
places-next asked (s ∷ ss) from zero b within serves =
    let e : from + 0 ≡ from = omega arith in
    rw (e, serves s refl) refl
places-next asked (s ∷ ss) from (suc place) b within serves =
    let e : from + suc place ≡ suc from + place = omega arith in
    rw e (places-next asked ss (suc from) place b (omega (arith, within)) serves)

-- the same, counted from the first
pub places-here : (asked : Service) (servers : List ServerView) (place : ℕ) (b : Bool) → place < length servers
    → ((s : ServerView) → slice_get servers place ≡ Some s → b ≡ is_some (service_at asked s))
    → places_of asked place (drop place servers)
    ≡ (if b then place ∷ places_of asked (place + 1) (drop (place + 1) servers)
    else places_of asked (place + 1) (drop (place + 1) servers))
places-here asked servers place b within serves =
    let e : 0 + place ≡ place = omega arith in
    let f : suc place ≡ place + 1 = omega arith in
    rw (e, f) at (places-next asked servers 0 place b within serves)

-- the server of this place is the one that is looked for, or one behind it is
get-next : (x : ℕ) (xs : List ℕ) (m n : ℕ) → n ≡ m + 1 → slice_get (x ∷ xs) n ≡ slice_get xs m
get-next x xs m zero is = absurd (omega (arith, is))
get-next x xs m (suc n) is = let same : n ≡ m = omega (arith, is) in ap (slice_get xs) same

module _ (asked : Service) (ss : List ServerView) (place n : ℕ) (b : Bool) (answer : Option ℕ)
    (within : place < length ss)
    (serves : (s : ServerView) → slice_get ss place ≡ Some s → b ≡ is_some (service_at asked s))
    (inv : slice_get (places_of asked place (drop place ss)) n ≡ answer) where
  pub nth-hit : b ≡ true → n ≡ 0 → Some place ≡ answer
  nth-hit is none_before =
      let rest = places_of asked (place + 1) (drop (place + 1) ss) in
      let here : places_of asked place (drop place ss) ≡ place ∷ rest =
      rw is at (places-here asked ss place b within serves) in
      sym (ap (λ (xs : List ℕ). slice_get xs n) here ∙ ap (slice_get (place ∷ rest)) none_before) ∙ inv

  pub nth-count : (m : ℕ) → b ≡ true → n ≡ m + 1
      → slice_get (places_of asked (place + 1) (drop (place + 1) ss)) m ≡ answer
  nth-count m is one_less =
      let rest = places_of asked (place + 1) (drop (place + 1) ss) in
      let here : places_of asked place (drop place ss) ≡ place ∷ rest =
      rw is at (places-here asked ss place b within serves) in
      sym (ap (λ (xs : List ℕ). slice_get xs n) here ∙ get-next place rest m n one_less) ∙ inv

  pub nth-pass : (m : ℕ) → b ≡ false → n ≡ m
      → slice_get (places_of asked (place + 1) (drop (place + 1) ss)) m ≡ answer
  nth-pass m is same =
      let rest = places_of asked (place + 1) (drop (place + 1) ss) in
      let here : places_of asked place (drop place ss) ≡ rest =
      rw is at (places-here asked ss place b within serves) in
      sym (ap (λ (xs : List ℕ). slice_get xs n) here ∙ ap (slice_get rest) same) ∙ inv

-- ---- what stands behind an element

pub behind-here : (one x : ℕ) (xs : List ℕ) → (x == one) ≡ true → behind one (x ∷ xs) ≡ xs
behind-here one x xs is = rw is refl

pub behind-later : (one x : ℕ) (xs : List ℕ) → (x == one) ≡ false → behind one (x ∷ xs) ≡ behind one xs
behind-later one x xs is = rw is refl

-- ---- the links of a list of servers

-- those to the server of a place, before those to the servers behind it
pub links-next : (p : Link → Bool) (c : RealmConfig) (asked : Service) (xs : List ℕ) (n : ℕ) (found : Option Link)
    → n < length xs
    → ((place : ℕ) → slice_get xs n ≡ Some place → found ≡ find p (server_ways c asked place))
    → find p (links_to c asked (drop n xs)) ≡ option_or found (find p (links_to c asked (drop (suc n) xs)))
links-next p c asked xs n found within is =
    let here = element xs n within in
    ap (λ (places : List ℕ). find p (links_to c asked places)) (from-next xs n here.0 here.1)
    ∙ find-append p (server_ways c asked here.0) (links_to c asked (drop (suc n) xs))
    ∙ ap (λ (o : Option Link). option_or o (find p (links_to c asked (drop (suc n) xs)))) (sym (is here.0 here.1))

some-first : (found rest : Option Link) → is_some found ≡ true → option_or found rest ≡ found
some-first None rest is = absurd (cc is)
some-first (Some l) rest is = refl

none-first : (found rest : Option Link) → is_some found ≡ false → option_or found rest ≡ rest
none-first None rest is = refl
none-first (Some l) rest is = absurd (cc is)

-- one to the server of a place passes, and none before it did; none to it passes
module _ (p : Link → Bool) (c : RealmConfig) (asked : Service) (xs : List ℕ) (n : ℕ) (found answer : Option Link)
    (within : n < length xs)
    (is : (place : ℕ) → slice_get xs n ≡ Some place → found ≡ find p (server_ways c asked place))
    (inv : find p (links_to c asked (drop n xs)) ≡ answer) where
  pub order-hit : is_some found ≡ true → found ≡ answer
  order-hit some =
      let rest = find p (links_to c asked (drop (suc n) xs)) in
      sym (some-first found rest some) ∙ sym (links-next p c asked xs n found within is) ∙ inv

  pub order-skip : is_some found ≡ false → find p (links_to c asked (drop (n + 1) xs)) ≡ answer
  order-skip none =
      let rest = find p (links_to c asked (drop (suc n) xs)) in
      let f : n + 1 ≡ suc n = omega arith in
      rw f (sym (none-first found rest none) ∙ sym (links-next p c asked xs n found within is) ∙ inv)

ways-of : (c : RealmConfig) (asked : Service) (place : ℕ) (found : Option ServerView)
    → slice_get c.realm.servers place ≡ found
    → AllByRecursion (IsLink c)
    (ways_to c.realm.out (server_link asked place) (option_and_then (service_at asked) found))
ways-of c asked place None there = tt
ways-of c asked place (Some s) there =
    ways-to-are (IsLink c) c.realm.out (server_link asked place) (service_at asked s)
    (λ out way. server-is c asked place out (slice_get_within c.realm.servers place s there) way)

-- each of them is the realm's
pub links-are : (c : RealmConfig) (asked : Service) (places : List ℕ)
    → AllByRecursion (IsLink c) (links_to c asked places)
links-are c asked [] = tt
links-are c asked (place ∷ places) =
    all-append (IsLink c) (server_ways c asked place) (links_to c asked places)
    (ways-of c asked place (slice_get c.realm.servers place) refl) (links-are c asked places)

-- The links to an endpoint, one for each `out` that sends to it, and those to servers, one server after the other.
use Rattle.std.proofs.Common.{◌≡◌, ℕ, suc, zero, ◌+◌, ◌<◌, ◌≤◌, ◌&&◌, ◌-◌, Bool, true, false, cond, List, [], ◌∷◌, ◌++◌, Option, Some, None, refl, ap, sym, ◌∙◌, arith, inl, inr, get_or, length, drop, drop-cons, add-one}
use Rattle.std.specs.List.{AllByRecursion, find}
use Rattle.std.specs.Option.{option_or}
use Rattle.std.proofs.Math.ListN.{drop_of_length-le}
use Rattle.std.proofs.lemmas.Bool.{cases_Bool}
use Rattle.roam_address.specs.declared.endpoint.Endpoint.{Endpoint}
use Rattle.roam_conf.specs.Lookup.{out_of}
use Rattle.roam_conf.specs.Ways.{is_way, same_kind}
use Rattle.roam_conf.specs.declared.place.Link.{Link}
use Rattle.roam_conf.specs.declared.place.Link.TheVariants as link
use Rattle.roam_realm.specs.RealmConfig.{RealmConfig, IsLink, coa_of, peer_ways, server_link, ways_from, ways_to}
use Rattle.roam_realm.specs.declared.service.Service.{Service}
use Rattle.roam_realm.specs.declared.service.Service.TheVariants as service

-- ---- the links to one endpoint

-- the `out` of a server's link
pub out-of_link : (s : Service) (server out : ℕ) → out_of (server_link s server out) ≡ out
out-of_link service.Authentication server out = refl
out-of_link service.Accounting server out = refl

first_of : {X : Type 0} (xs : List X) (place : ℕ) → place < length xs → X
first_of [] place lt = absurd (omega (arith, lt))
first_of (x ∷ xs) place lt = x

way-at : (outs : List Endpoint) (place : ℕ) (first endpoint : Endpoint) → place < length outs
    → is_way outs place endpoint ≡ same_kind (get_or outs place first) endpoint
way-at [] place first endpoint lt = absurd (omega (arith, lt))
way-at (out ∷ outs) zero first endpoint lt = refl
way-at (out ∷ outs) (suc place) first endpoint lt = way-at outs place first endpoint (omega (arith, lt))

first_way : (p : Link → Bool) (link_by : ℕ → Link) (place : ℕ) (out endpoint : Endpoint) (outs : List Endpoint)
    (way : Bool) → same_kind out endpoint ≡ way
    → find p (ways_from link_by place (out ∷ outs) endpoint)
    ≡ cond (way && p (link_by place)) (Some (link_by place)) (find p (ways_from link_by (place + 1) outs endpoint))
first_way p link_by place out endpoint outs true is = rw is refl
first_way p link_by place out endpoint outs false is = rw is refl

ways_here : (p : Link → Bool) (link_by : ℕ → Link) (outs : List Endpoint) (place : ℕ) (endpoint : Endpoint)
    → place < length outs
    → find p (ways_from link_by place (drop place outs) endpoint)
    ≡ cond (is_way outs place endpoint && p (link_by place)) (Some (link_by place))
    (find p (ways_from link_by (place + 1) (drop (place + 1) outs) endpoint))
ways_here p link_by outs place endpoint lt =
    let first = first_of outs place lt in
    ap (λ (os : List Endpoint). find p (ways_from link_by place os endpoint)) (drop-cons outs place first lt)
    ∙ first_way p link_by place (get_or outs place first) endpoint (drop (suc place) outs)
    (is_way outs place endpoint) (sym (way-at outs place first endpoint lt))
    ∙ ap (λ (k : ℕ). cond (is_way outs place endpoint && p (link_by place)) (Some (link_by place))
    (find p (ways_from link_by (place + 1) (drop k outs) endpoint))) (sym (add-one place))

-- the way at a place passes, and none before it did; it doesn't pass
here_too : (p : Link → Bool) (link_by : ℕ → Link) (outs : List Endpoint) (place : ℕ) (endpoint : Endpoint) (l : Link)
    (b : Bool) → out_of (link_by place) ≡ place → l ≡ link_by place → (is_way outs (out_of l) endpoint && p l) ≡ b
    → (is_way outs place endpoint && p (link_by place)) ≡ b
here_too p link_by outs place endpoint l b numbered at is =
    ap (λ (k : ℕ). is_way outs k endpoint && p (link_by place)) (sym numbered)
    ∙ ap (λ (k : Link). is_way outs (out_of k) endpoint && p k) (sym at) ∙ is

pub way-hit : (p : Link → Bool) (link_by : ℕ → Link) (outs : List Endpoint) (place : ℕ) (endpoint : Endpoint)
    (l : Link) (answer : Option Link) → place < length outs → out_of (link_by place) ≡ place → l ≡ link_by place
    → (is_way outs (out_of l) endpoint && p l) ≡ true
    → find p (ways_from link_by place (drop place outs) endpoint) ≡ answer → Some l ≡ answer
way-hit p link_by outs place endpoint l answer lt numbered at is inv =
    let here = here_too p link_by outs place endpoint l true numbered at is in
    ap Some at ∙ sym (rw here at (ways_here p link_by outs place endpoint lt)) ∙ inv

pub way-skip : (p : Link → Bool) (link_by : ℕ → Link) (outs : List Endpoint) (place : ℕ) (endpoint : Endpoint)
    (l : Link) (answer : Option Link) → place < length outs → out_of (link_by place) ≡ place → l ≡ link_by place
    → (is_way outs (out_of l) endpoint && p l) ≡ false
    → find p (ways_from link_by place (drop place outs) endpoint) ≡ answer
    → find p (ways_from link_by (place + 1) (drop (place + 1) outs) endpoint) ≡ answer
way-skip p link_by outs place endpoint l answer lt numbered at is inv =
    let here = here_too p link_by outs place endpoint l false numbered at is in
    sym (rw here at (ways_here p link_by outs place endpoint lt)) ∙ inv

-- all were passed, and none is left
pub ways-end : (p : Link → Bool) (link_by : ℕ → Link) (outs : List Endpoint) (place : ℕ) (endpoint : Endpoint)
    (answer : Option Link) → length outs ≤ place
    → find p (ways_from link_by place (drop place outs) endpoint) ≡ answer → None ≡ answer
ways-end p link_by outs place endpoint answer past inv = rw (drop_of_length-le outs past) at inv

-- ---- links in front of others

pub find-append : {X : Type 0} (p : X → Bool) (xs ys : List X) → find p (xs ++ ys) ≡ option_or (find p xs) (find p ys)
find-append p [] ys = refl
find-append p (x ∷ xs) ys =
    elim (cases_Bool (p x)) [
      | inl y ↦ rw y refl
      | inr n ↦ rw n (find-append p xs ys)
    ]

-- ---- the links of the realm

ways-are : (P : Link → Type 0) (count : ℕ) (link_by : ℕ → Link) (endpoint : Endpoint) (place : ℕ)
    (outs : List Endpoint) → length outs ≤ count - place → ((out : ℕ) → out < count → P (link_by out))
    → AllByRecursion P (ways_from link_by place outs endpoint)
ways-are P count link_by endpoint place [] few each = tt
ways-are P count link_by endpoint place (out ∷ outs) few each =
    let others = ways-are P count link_by endpoint (place + 1) outs (omega (arith, few)) each in
    elim (cases_Bool (same_kind out endpoint)) [
      | inl y ↦ rw y (each place (omega (arith, few)), others)
      | inr n ↦ rw n others
    ]

pub ways-to-are : (P : Link → Type 0) (outs : List Endpoint) (link_by : ℕ → Link) (endpoint : Option Endpoint)
    → ((out : ℕ) → out < length outs → P (link_by out)) → AllByRecursion P (ways_to outs link_by endpoint)
ways-to-are P outs link_by None each = tt
ways-to-are P outs link_by (Some endpoint) each = ways-are P (length outs) link_by endpoint 0 outs (omega arith) each

pub server-is : (c : RealmConfig) (s : Service) (server out : ℕ) → server < length c.realm.servers
    → out < length c.realm.out → IsLink c (server_link s server out)
server-is c service.Authentication server out within way = (within, way)
server-is c service.Accounting server out within way = (within, way)

pub peer-ways-are : (c : RealmConfig) (peer : ℕ) → peer < length c.peers
    → AllByRecursion (IsLink c) (peer_ways c peer)
peer-ways-are c peer within =
    ways-to-are (IsLink c) c.realm.out (λ out. link.Coa peer out) (coa_of c peer) (λ out way. (within, way))

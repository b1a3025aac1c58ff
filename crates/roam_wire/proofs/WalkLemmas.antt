-- Octets as attributes, one at a time from the front.
use Rattle.std.proofs.Common.{◌≡◌, ◌≢◌, ℕ, zero, suc, ◌+◌, ◌-◌, ◌≤◌, List, [], ◌∷◌, length, drop, Option, Some, None, IsSome, ◌↔◌, refl, ap, subst, ◌∙◌, arith, length-drop}
use Rattle.std.specs.Prelude.{unwrap_or, option_and_then}
use Rattle.std.proofs.lemmas.Option.{cond_some}
use Rattle.roam_wire.specs.Packet.{Attribute}
use Rattle.roam_wire.specs.Reading.{attribute_at, with_first, attributes_within, attributes_of}

-- an attribute and the octets behind it
abbrev Front : Type 0
Front = Attribute × List ℕ

-- an attribute at the front takes two octets at least
pub length-behind : (octets : List ℕ) (x : Front) → attribute_at octets ≡ Some x → length x.1 + 2 ≤ length octets
length-behind [] x h = absurd (cc)
length-behind (kind ∷ []) x h = absurd (cc)
length-behind (kind ∷ n ∷ rest) x h =
    let found = cond_some _ _ _ h in
    let behind : drop (n - 2) rest ≡ x.1 = ap (λ (p : Front). p.1) found.1 in
    rw (← behind) (omega (arith, length-drop (n - 2) rest))

-- the attribute, and then at most n more
abbrev then_within : ℕ → Front → Option (List Attribute)
then_within n x = with_first x.0 (attributes_within n x.1)

-- the attribute, and then all that follow
abbrev then_all : Front → Option (List Attribute)
then_all x = with_first x.0 (attributes_of x.1)

-- a step that is alike at the front that was found is alike
same_steps : (f g : Front → Option (List Attribute)) (found : Option Front) →
    ((x : Front) → found ≡ Some x → f x ≡ g x) → option_and_then f found ≡ option_and_then g found
same_steps f g None same = refl
same_steps f g (Some x) same = same x refl

-- any bound that the octets keep serves as well as another
pub attributes_within-bound : (n m : ℕ) (octets : List ℕ) → length octets ≤ n → length octets ≤ m →
    attributes_within n octets ≡ attributes_within m octets
unfolding attributes_within
attributes_within-bound n m [] p q = refl
attributes_within-bound zero m (b ∷ bs) p q = absurd (omega arith)
attributes_within-bound (suc n) zero (b ∷ bs) p q = absurd (omega arith)
attributes_within-bound (suc n) (suc m) (b ∷ bs) p q =
    same_steps (then_within n) (then_within m) (attribute_at (b ∷ bs)) (λ x found.
    let fewer = length-behind (b ∷ bs) x found in
    ap (with_first x.0) (attributes_within-bound n m x.1 (omega arith) (omega arith)))

-- all octets as attributes: the first one, then the rest
pub attributes_of-cons : (b : ℕ) (bs : List ℕ) →
    attributes_of (b ∷ bs) ≡ option_and_then (λ x. with_first x.0 (attributes_of x.1)) (attribute_at (b ∷ bs))
unfolding attributes_of attributes_within
attributes_of-cons b bs =
    same_steps (then_within (length bs)) then_all (attribute_at (b ∷ bs)) (λ x found.
    let fewer = length-behind (b ∷ bs) x found in
    ap (with_first x.0) (attributes_within-bound (length bs) (length x.1) x.1 (omega arith) (omega arith)))

-- an attribute before others is some list just where they are
IsSome-with_first : (a : Attribute) (others : Option (List Attribute)) → IsSome (with_first a others) ↔ IsSome others
IsSome-with_first a None = (λ h. h, λ h. h)
IsSome-with_first a (Some more) = (λ h. h, λ h. h)

-- octets are attributes just where those behind the first one are
pub IsSome-behind : (octets : List ℕ) (x : Front) → attribute_at octets ≡ Some x → IsSome (attributes_of octets)
    ↔ IsSome (attributes_of x.1)
IsSome-behind [] x found = absurd (cc)
IsSome-behind (b ∷ bs) x found =
    rw (attributes_of-cons b bs, found) (IsSome-with_first x.0 (attributes_of x.1))

-- octets with no attribute at the front are no attributes
pub none_at_front : (octets : List ℕ) → length octets ≢ 0 → attribute_at octets ≡ None →
    IsSome (attributes_of octets) → ⊥
none_at_front [] some none h = some refl
none_at_front (b ∷ bs) some none h = absurd (cc (rw (attributes_of-cons b bs, none) at h))

-- no octets are no attributes
pub IsSome-empty : (octets : List ℕ) → length octets ≡ 0 → IsSome (attributes_of octets)
unfolding attributes_of attributes_within
IsSome-empty [] h = refl
IsSome-empty (b ∷ bs) h = absurd (omega arith)

-- the list of an attribute before others
unwrap_or-with_first : (a : Attribute) (others : Option (List Attribute)) → IsSome (with_first a others) →
    unwrap_or (with_first a others) [] ≡ a ∷ unwrap_or others []
unwrap_or-with_first a None h = absurd (cc h)
unwrap_or-with_first a (Some more) h = refl

-- the attributes of octets: the first one, and those behind it
pub first_and_others : (octets : List ℕ) (x : Front) → attribute_at octets ≡ Some x → IsSome (attributes_of octets) →
    unwrap_or (attributes_of octets) [] ≡ x.0 ∷ unwrap_or (attributes_of x.1) []
first_and_others [] x found h = absurd (cc)
first_and_others (b ∷ bs) x found h =
    let whole : attributes_of (b ∷ bs) ≡ with_first x.0 (attributes_of x.1) =
    rw (attributes_of-cons b bs, found) refl in
    ap (λ (o : Option (List Attribute)). unwrap_or o []) whole
    ∙ unwrap_or-with_first x.0 (attributes_of x.1) (subst IsSome whole h)

-- where no attribute is at the front, none is left
pub none_left : (octets : List ℕ) → attribute_at octets ≡ None → IsSome (attributes_of octets) →
    unwrap_or (attributes_of octets) [] ≡ []
unfolding attributes_of attributes_within
none_left [] none h = refl
none_left (b ∷ bs) none h = absurd (none_at_front (b ∷ bs) (λ e. omega arith) none h)

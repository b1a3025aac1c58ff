-- The attributes of one Type in a list (RFC 2865, section 5).
use Rattle.std.specs.Prelude.{ℕ, ◌==◌, Bool, List, Option, filter, count_by, find, option_map, not}
use Rattle.roam_wire.specs.Packet.{Attribute}

-- whether an attribute has this Type
abbrev pub has_kind : ℕ → Attribute → Bool
has_kind kind a = a.kind == kind

-- ## First value, count
-- The Value of the first attribute of a Type; how many attributes have that Type. Wherever a rule speaks of
-- "the first" attribute of a Type, that one alone decides.
-- Source: RFC 2865 section 5, ours
-- Rules out: a later attribute that mends a bad first one
-- Stands in: `roam_wire` `Attributes.antt`: `first_value`, `count_of`; `View::first`, `View::count`
--
-- the Value of the first attribute of a Type, if there is one
abbrev pub first_value : ℕ → List Attribute → Option (List ℕ)
first_value kind attributes = option_map (λ a. a.value) (find (has_kind kind) attributes)

-- how many attributes have a Type
abbrev pub count_of : ℕ → List Attribute → ℕ
count_of kind attributes = count_by (has_kind kind) attributes

-- the attributes of one Type, in their order
abbrev pub only_kind : ℕ → List Attribute → List Attribute
only_kind kind attributes = filter (has_kind kind) attributes

-- the attributes of all other Types, in their order
abbrev pub without_kind : ℕ → List Attribute → List Attribute
without_kind kind attributes = filter (λ a. not (has_kind kind a)) attributes

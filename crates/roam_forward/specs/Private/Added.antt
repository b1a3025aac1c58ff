-- The attributes that are added to a request, as the code has it (ours).
use Rattle.std.specs.Prelude.{ℕ, Bool, List, [], ◌∷◌, ◌++◌, Option, Some, None, option_map, if◌then◌else◌}
use Rattle.roam_wire.specs.Packet.{Attribute}
use Rattle.roam_wire.specs.declared.attribute_type.TheConstants.{CHARGEABLE_USER_IDENTITY}
use Rattle.roam_forward.specs.Shaped.{operator_name_of}
use Rattle.roam_forward.specs.Private.Arranged.{challenge_of}
use Rattle.roam_forward.specs.declared.added.Added.{Added}

-- an Operator-Name, where there is one
abbrev pub name_of : Option (List ℕ) → List Attribute
name_of None = []
name_of (Some name) = operator_name_of name ∷ []

-- a Chargeable-User-Identity, where it is asked for
abbrev pub cui_of : Bool → List Attribute
cui_of asked = if asked then record { kind = CHARGEABLE_USER_IDENTITY; value = 0 ∷ [] } ∷ [] else []

-- in this order
abbrev pub shown_added : Added → List Attribute
shown_added a =
    challenge_of a.challenge ++ (name_of (option_map (λ name. name.now) a.operator_name) ++ cui_of a.cui)

use Rattle.std.proofs.Common.{◌≡◌, false}
use Rattle.std.specs.List.{list_any}
use Rattle.std.specs.Option.{option_map_or}
use Rattle.roam_wire.specs.Reading.{attributes_of}
use Rattle.roam_crypto.specs.Salted.{is_salted_sub}
use Rattle.roam_crypto.proofs.sub_attributes.any_salted.Given as goal

-- a salted one is among all just where it is among those that are left
abbrev pub invariant-loop-sub : goal.invariant-loop-sub
invariant-loop-sub l =
    option_map_or (list_any (is_salted_sub l.vendor)) (attributes_of l.octets) false
    ≡ list_any (is_salted_sub l.vendor) l.sub-iterator

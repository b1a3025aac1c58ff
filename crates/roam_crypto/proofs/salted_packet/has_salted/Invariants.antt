use Rattle.std.proofs.Common.{◌≡◌}
use Rattle.std.specs.List.{list_any}
use Rattle.roam_crypto.specs.Salted.{is_salted_attribute}
use Rattle.roam_crypto.proofs.salted_packet.has_salted.Given as goal

-- a salted attribute is among all just where it is among those that are left
abbrev pub invariant-loop-attribute : goal.invariant-loop-attribute
invariant-loop-attribute l =
    list_any is_salted_attribute l.fn.view.attributes ≡ list_any is_salted_attribute l.attribute-iterator

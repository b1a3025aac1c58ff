use Rattle.std.proofs.Common.{length, ◌-◌, ◌≡◌, List}
use Rattle.std.specs.List.{AllByRecursion}
use Rattle.roam_wire.specs.Packet.{Attribute, attributes_text}
use Rattle.roam_crypto.specs.HidingKeys.{password_key}
use Rattle.roam_crypto.specs.PacketAnew.{attribute_anew, CanBeHiddenAnew}
use Rattle.roam_crypto.proofs.InPlaceLemmas.{IsUnderway}
use Rattle.roam_crypto.proofs.packet_values.rehide_attributes.Given as goal

-- the attributes before `at` are hidden anew
abbrev pub invariant-loop-at : goal.invariant-loop-at
invariant-loop-at l = (all : List Attribute) → l.fn.octets ≡ attributes_text all
    → AllByRecursion (CanBeHiddenAnew l.fn.hidden) all
    → IsUnderway (attribute_anew l.fn.hidden (password_key l.fn.from) (password_key l.fn.to))
    (CanBeHiddenAnew l.fn.hidden) all l.octets l.at

abbrev pub decreases-loop-at : goal.decreases-loop-at
decreases-loop-at l = length l.initial.octets - l.at

use Rattle.std.proofs.Common.{length, ◌-◌, ◌≡◌, List}
use Rattle.roam_wire.specs.Packet.{Attribute, attributes_text}
use Rattle.roam_crypto.specs.HidingKeys.{password_key}
use Rattle.roam_crypto.specs.SaltedFunctions.{sub_attribute_anew}
use Rattle.roam_crypto.proofs.InPlaceLemmas.{IsUnderway, Always}
use Rattle.roam_crypto.proofs.sub_attributes.rehide_subs.Given as goal

-- the sub-attributes before `at` are hidden anew
abbrev pub invariant-loop-at : goal.invariant-loop-at
invariant-loop-at l = (subs : List Attribute) → l.fn.octets ≡ attributes_text subs
    → IsUnderway (sub_attribute_anew (password_key l.fn.from) (password_key l.fn.to) l.fn.vendor) Always subs l.octets
    l.at

abbrev pub decreases-loop-at : goal.decreases-loop-at
decreases-loop-at l = length l.initial.octets - l.at

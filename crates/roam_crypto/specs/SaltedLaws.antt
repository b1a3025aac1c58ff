-- Laws of salted values. Each is the contract of a function of src/hiding_laws.rt.
use Rattle.std.specs.Prelude.{◌≡◌, ◌↔◌, ℕ, List, IsTrue, length}
use Rattle.roam_wire.specs.Packet.{AreOctets, Attribute, Packet, attributes_text}
use Rattle.roam_crypto.specs.Hiding.{Key, IsHiddenAnew, hidden_anew}
use Rattle.roam_crypto.specs.HidingLaws.{IsTheOne}
use Rattle.roam_crypto.specs.SaltedValues.{IsAttributeAnew, IsSalted}
use Rattle.roam_crypto.specs.SaltedFunctions.{salted_hidden_anew}
use Rattle.roam_crypto.specs.Salted.{is_salted}

-- octets are those of one list of sub-attributes at most
abbrev pub OneListOfSubAttributes : Type 0
OneListOfSubAttributes = (subs others : List Attribute)
    → attributes_text subs ≡ attributes_text others → subs ≡ others

-- an attribute can be hidden anew in just one way
abbrev pub OneAttributeAnew : Type 0
OneAttributeAnew = (from to : Key) (old : Attribute)
    → IsTheOne (λ new. IsAttributeAnew from to old new) (salted_hidden_anew from to old)

-- what is hidden anew keeps its size
abbrev pub HiddenAnewKeepsSize : Type 0
HiddenAnewKeepsSize = (from to : Key) (old new : List ℕ)
    → IsHiddenAnew from to old new → length new ≡ length old

abbrev pub AttributeAnewKeepsSize : Type 0
AttributeAnewKeepsSize = (from to : Key) (old new : Attribute)
    → IsAttributeAnew from to old new → length new.value ≡ length old.value

-- what octets are hidden anew to is octets
abbrev pub HiddenAnewIsOctets : Type 0
HiddenAnewIsOctets = (from to : Key) (old : List ℕ) → AreOctets old
    → AreOctets (hidden_anew from to old)

abbrev pub AttributeAnewIsOctets : Type 0
AttributeAnewIsOctets = (from to : Key) (old : Attribute) → AreOctets old.value
    → AreOctets (salted_hidden_anew from to old).value

-- the test of salted strings is true just where the packet has one
abbrev pub SaltedIsDecided : Type 0
SaltedIsDecided = (packet : Packet) → IsTrue (is_salted packet.attributes) ↔ IsSalted packet

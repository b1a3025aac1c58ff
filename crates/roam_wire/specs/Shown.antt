-- An attribute that is looked at, without where it lies.
use Rattle.roam_wire.specs.Packet.{Attribute}
use Rattle.roam_wire.specs.declared.attributes.Attr.{Attr}

-- the attribute that an `Attr` shows
abbrev pub shown : Attr → Attribute
shown a = record { kind = a.kind; value = a.value.now }

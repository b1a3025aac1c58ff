use Rattle.roam_wire.specs.Attributes.{has_kind}
use Rattle.roam_wire.specs.declared.attribute_type.TheConstants.{PROXY_STATE}
use Rattle.roam_wire.proofs.KeptLemmas.{IsCount}
use Rattle.roam_wire.proofs.writing.proxy_states_len.Given as goal

-- the octets of all that count but those that are left were counted
abbrev pub invariant-loop-attribute : goal.invariant-loop-attribute
invariant-loop-attribute l =
    IsCount (has_kind PROXY_STATE) l.fn.request.attributes l.attribute-iterator l.size

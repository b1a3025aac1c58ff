use Rattle.std.proofs.Common.{◌↔◌, IsSome, length}
use Rattle.roam_wire.specs.Reading.{attributes_of}
use Rattle.roam_wire.proofs.attribute_grammar.are_attributes.Given as goal

-- all octets are attributes just where those that are left are
abbrev pub invariant-loop-rest : goal.invariant-loop-rest
invariant-loop-rest l = IsSome (attributes_of l.fn.octets) ↔ IsSome (attributes_of l.rest)

abbrev pub decreases-loop-rest : goal.decreases-loop-rest
decreases-loop-rest l = length l.rest

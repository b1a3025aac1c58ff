use Rattle.std.proofs.Common.{◌≡◌}
use Rattle.roam_wire.specs.Attributes.{first_value}
use Rattle.roam_wire.proofs.view.View.first.Given as goal

-- the first value of all is the first value of those that are left
abbrev pub invariant-loop-attribute : goal.invariant-loop-attribute
invariant-loop-attribute l = first_value l.kind l.fn.self.attributes ≡ first_value l.kind l.attribute-iterator

use Rattle.std.proofs.Common.{◌↔◌}
use Rattle.std.specs.List.{AllByRecursion}
use Rattle.roam_forward.specs.Forwarded.{HasPasswordBlocks}
use Rattle.roam_forward.proofs.forwardable.passwords_have_blocks.Given as goal

-- all have blocks just where those that are left have
abbrev pub invariant-loop-attribute : goal.invariant-loop-attribute
invariant-loop-attribute l = AllByRecursion HasPasswordBlocks l.fn.request.attributes
    ↔ AllByRecursion HasPasswordBlocks l.attribute-iterator

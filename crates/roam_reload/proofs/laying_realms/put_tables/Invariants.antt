use Rattle.std.specs.Vec.Iter.{into_iter_items, into_iter_len}
use Rattle.std.proofs.Common.{◌≡◌, ◌++◌, length, map}
use Rattle.roam_conf.specs.Parts.{shown_realm}
use Rattle.roam_reload.specs.Laying.{left_in, realms_in}
use Rattle.roam_reload.proofs.laying_realms.put_tables.Given as goal

-- what was put, and what is left
abbrev pub invariant-loop-slot : goal.invariant-loop-slot
invariant-loop-slot l = record {
  laid : map shown_realm l.laid.items ++ left_in (realms_in (into_iter_items l.slot-iterator))
      ≡ map shown_realm l.fn.laid.items ++ left_in (realms_in l.fn.slots.items);
  left : into_iter_len l.slot-iterator ≡ length (into_iter_items l.slot-iterator);
}

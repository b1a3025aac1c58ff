use Rattle.std.specs.Vec.Iter.{into_iter_items, into_iter_len}
use Rattle.std.proofs.Common.{◌≡◌, ◌++◌, length, map}
use Rattle.roam_conf.specs.Parts.{shown_realm}
use Rattle.roam_reload.specs.Laying.{all_in, realms_in}
use Rattle.roam_reload.proofs.laying_realms.slots_of.Given as goal

-- what has its slot, and what is left
abbrev pub invariant-loop-realm : goal.invariant-loop-realm
invariant-loop-realm l = record {
  slots : realms_in l.slots.items ++ all_in (map shown_realm (into_iter_items l.realm-iterator))
      ≡ all_in (map shown_realm l.fn.realms.items);
  left : into_iter_len l.realm-iterator ≡ length (into_iter_items l.realm-iterator);
}

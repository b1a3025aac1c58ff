use Rattle.std.proofs.Common.{◌≡◌, drop}
use Rattle.std.specs.List.{position_from}
use Rattle.roam_conf.specs.Lookup.{first_place}
use Rattle.roam_conf.specs.Parts.{shown_realm}
use Rattle.roam_reload.specs.Laying.{realms_in, slot_holds}
use Rattle.roam_reload.specs.Numbers.{same_realm_name}
use Rattle.roam_reload.proofs.laying_realms.slot_with.Given as goal

abbrev pub invariant-loop-i : goal.invariant-loop-i
invariant-loop-i l =
    position_from (slot_holds (same_realm_name (shown_realm l.realm))) l.i (realms_in (drop l.i l.slots))
    ≡ first_place (slot_holds (same_realm_name (shown_realm l.fn.realm))) (realms_in l.fn.slots)

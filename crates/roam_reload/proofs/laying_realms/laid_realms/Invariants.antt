use Rattle.std.proofs.Common.{◌≡◌, map, take, unwrap_or}
use Rattle.std.specs.List.{find}
use Rattle.roam_conf.specs.Parts.{shown_realm}
use Rattle.roam_reload.specs.Laying.{realms_in, slots_then}
use Rattle.roam_reload.specs.Numbers.{gone_realm, same_realm_name}
use Rattle.roam_reload.proofs.laying_realms.laid_realms.Given as goal

-- so many of the old ones are laid out, and their tables taken
abbrev pub invariant-loop-realm : goal.invariant-loop-realm
invariant-loop-realm l = record {
  laid : map shown_realm l.laid.items
      ≡ map (λ x. unwrap_or (find (same_realm_name x) (map shown_realm l.fn.new.items)) (gone_realm x))
      (take l.realm-index (map shown_realm l.fn.old));
  slots : realms_in l.slots.items
      ≡ slots_then same_realm_name (take l.realm-index (map shown_realm l.fn.old)) (map shown_realm l.fn.new.items);
}

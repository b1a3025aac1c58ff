use Rattle.std.proofs.Common.{◌≡◌, drop}
use Rattle.roam_realm.specs.ServerOrder.{behind, in_order}
use Rattle.roam_realm.proofs.realm_settings.RealmSettings.passed_with.Given as goal

-- it is none of those that were passed
abbrev pub invariant-loop-nth : goal.invariant-loop-nth
invariant-loop-nth l =
    behind l.server (drop l.nth (in_order l.self l.servers)) ≡ behind l.server (in_order l.self l.servers)

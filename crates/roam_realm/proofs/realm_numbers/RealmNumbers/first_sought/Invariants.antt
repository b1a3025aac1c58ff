use Rattle.std.proofs.Common.{◌≡◌, drop}
use Rattle.std.specs.List.{find}
use Rattle.roam_realm.specs.ServerOrder.{in_order, links_from, links_to}
use Rattle.roam_realm.specs.Sound.{is_sought}
use Rattle.roam_realm.proofs.realm_numbers.RealmNumbers.first_sought.Given as goal

-- no link of the servers that were passed is sought
abbrev pub invariant-loop-nth : goal.invariant-loop-nth
invariant-loop-nth g l =
    let sought = is_sought l.settings l.self.rests.items l.self.lanes.items l.wanted l.freed in
    find sought (links_to l.settings l.servers.service (drop l.nth (in_order l.settings l.servers)))
    ≡ find sought (links_from l.settings l.servers)

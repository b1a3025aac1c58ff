use Rattle.std.proofs.Common.{◌≡◌, drop}
use Rattle.std.specs.List.{find}
use Rattle.roam_realm.specs.RealmConfig.{server_link, ways_from}
use Rattle.roam_realm.specs.Sound.{is_sought}
use Rattle.roam_realm.proofs.realm_numbers.RealmNumbers.first_sought_to.Given as goal

-- no way that was passed is sought
abbrev pub invariant-loop-out : goal.invariant-loop-out
invariant-loop-out g l =
    let sought = is_sought l.settings l.self.rests.items l.self.lanes.items l.wanted l.freed in
    let outs = l.settings.realm.out in
    find sought (ways_from (server_link l.service l.server) l.out (drop l.out outs) l.endpoint)
    ≡ find sought (ways_from (server_link l.service l.server) 0 outs l.endpoint)

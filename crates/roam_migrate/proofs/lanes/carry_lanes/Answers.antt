use Rattle.std.proofs.Common.{◌∙◌, ap, length}
use Rattle.std.proofs.lemmas.List.{length-replicate}
use Rattle.roam_realm.specs.RealmConfig.{server_link_count}
use Rattle.roam_realm.specs.Rests.{awake}
use Rattle.roam_migrate.proofs.EntriesOverLemmas.{rests_stay}
use Rattle.roam_migrate.proofs.lanes.carry_lanes.Goals as goal

pub keep_lanes-requires-clause-room : goal.keep_lanes-requires-clause-room
keep_lanes-requires-clause-room g c = let ready = rw c.in-None.is at c.requires.ready in ready.0

pub keep_lanes-requires-clause-stand : goal.keep_lanes-requires-clause-stand
keep_lanes-requires-clause-stand g c = let ready = rw c.in-None.is at c.requires.ready in ready.1

pub take_lanes-requires-clause-fresh : goal.take_lanes-requires-clause-fresh
take_lanes-requires-clause-fresh g c = let ready = rw c.in-Some.is at c.requires.ready in ready.0

pub take_lanes-requires-clause-rests : goal.take_lanes-requires-clause-rests
take_lanes-requires-clause-rests g c =
    let ready = rw c.in-Some.is at c.requires.ready in
    ap length ready.1 ∙ length-replicate (server_link_count c.args.new.now) awake

pub returns-in-None-clause-rests : goal.returns-in-None-clause-rests
returns-in-None-clause-rests g c =
    let ready = rw c.in-None.is at c.requires.ready in
    c.keep_lanes.ensures.rests ∙ rests_stay c.args.old.now c.args.new.now c.args.numbers.now.rests.items ready.1

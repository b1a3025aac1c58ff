use Rattle.std.proofs.Common.{◌≡◌, ◌+◌, arith, map, drop, get_or}
use Rattle.std.proofs.lemmas.List.{at_drop_all, at_drop_more}
use Rattle.roam_conf.specs.Parts.{shown_peer}
use Rattle.roam_migrate.specs.Private.Lost.{of_one_peer}
use Rattle.roam_migrate.proofs.LostSessionLemmas.{few_gone, gone_are, gone_with}
use Rattle.roam_migrate.proofs.losses.sessions_gone.Goals as goal

pub loop-peer-preserved : goal.loop-peer-preserved
loop-peer-preserved g c =
    let old = map shown_peer c.args.old.now in
    let new = map shown_peer c.args.new.now in
    let ss = c.args.sessions.now.sessions in
    let changed = c.args.changed.now in
    let i = c.loop-peer.peer-index in
    let step : gone_with old new ss (drop i changed)
    ≡ of_one_peer old new ss (get_or changed i 0) + gone_with old new ss (drop (i + 1) changed) =
    at_drop_more (gone_with old new ss) changed i 0 c.loop-peer-test.true in
    omega (arith, c.loop-peer.invariant, step, gone_are old new changed c.requires ss, few_gone old new ss)

pub returns : goal.returns
returns g c =
    let old = map shown_peer c.args.old.now in
    let new = map shown_peer c.args.new.now in
    let ss = c.args.sessions.now.sessions in
    let changed = c.args.changed.now in
    let end = at_drop_all (gone_with old new ss) changed c.loop-peer.peer-index c.loop-peer-test.false in
    omega (arith, c.loop-peer.invariant, end, gone_are old new changed c.requires ss, few_gone old new ss)

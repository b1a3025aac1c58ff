-- The shard begins, takes up what the file has, and stands still while it is counted.
use Rattle.roam_conf.specs.Shown.{shown}
use Rattle.roam_sessions.specs.ShownLedgers.{shown_items}
use Rattle.roam_server.proofs.BeginLemmas.{opened-fresh, opened-paused, taken-up}
use Rattle.roam_server.proofs.beginning.begin_one.Goals as goal

pub restore-requires : goal.restore-requires
restore-requires c =
    (opened-paused (shown c.args.config.now) c.args.shard c.args.starts.now c.in_ok-begun.begun c.pause-paused.result
    c.in_ok-begun.ensures.opening c.pause-paused.ensures.shard c.pause-paused.ensures.stands).stands

pub returns-clause-ok : goal.returns-clause-ok
returns-clause-ok c =
    let config = shown c.args.config.now in
    let begun = c.in_ok-begun in
    taken-up config (shown_items c.args.items.now) c.args.shard c.pause-paused.result c.restore.new.self c.pause.result
    c.resume-standing.result
    (opened-paused config c.args.shard c.args.starts.now begun.begun c.pause-paused.result begun.ensures.opening
    c.pause-paused.ensures.shard c.pause-paused.ensures.stands)
    (opened-fresh config c.args.shard c.args.starts.now begun.begun c.pause-paused.result begun.ensures.opening
    c.pause-paused.ensures.states begun.ensures.states c.requires.first)
    c.restore.ensures.shard c.in_ok-restore.ensures.states c.resume-standing.ensures.opening
    c.resume-standing.ensures.states c.pause.ensures.stands c.pause.ensures.states c.pause.ensures.shard

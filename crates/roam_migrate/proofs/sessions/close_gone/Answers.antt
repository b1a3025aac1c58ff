use Rattle.std.proofs.Common.{◌∙◌, get_or, refl}
use Rattle.std.proofs.lemmas.List.{get_or_default}
use Rattle.roam_reload.specs.Kept.{keeps_sessions, of_peer}
use Rattle.roam_migrate.proofs.CarriedSessionLemmas.{all_closed, next_either, none_closed}
use Rattle.roam_migrate.proofs.sessions.close_gone.Goals as goal

pub loop-peer-init : goal.loop-peer-init
loop-peer-init g c = record {
  sessions = none_closed c.args.old.now.peers c.args.new.now.peers c.args.changed.now c.args.sessions.now.sessions;
  limit = refl;
}

pub loop-peer-preserved : goal.loop-peer-preserved
loop-peer-preserved g c =
    let old = c.args.old.now.peers in
    let new = c.args.new.now.peers in
    let changed = c.args.changed.now in
    let i = c.loop-peer.peer-index in
    let x = get_or changed i 0 in
    record {
      sessions = c.close_if_gone.ensures.sessions
          ∙ next_either old new changed i x c.loop-peer-test.true (get_or_default changed i 0 x c.loop-peer-test.true)
          c.args.sessions.now.sessions c.loop-peer.sessions.sessions c.loop-peer.invariant.sessions
          (of_peer keeps_sessions old new x) refl;
      limit = c.close_if_gone.ensures.limit ∙ c.loop-peer.invariant.limit;
    }

pub returns-clause-sessions : goal.returns-clause-sessions
returns-clause-sessions g c =
    all_closed c.args.old.now.peers c.args.new.now.peers c.args.changed.now c.loop-peer.peer-index
    c.args.sessions.now.sessions c.loop-peer.sessions.sessions c.requires c.loop-peer-test.false
    c.loop-peer.invariant.sessions

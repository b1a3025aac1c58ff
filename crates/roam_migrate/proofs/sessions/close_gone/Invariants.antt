use Rattle.std.proofs.Common.{◌≡◌, take}
use Rattle.std.specs.List.{filter}
use Rattle.roam_migrate.proofs.CarriedSessionLemmas.{stays_so_far}
use Rattle.roam_migrate.proofs.sessions.close_gone.Given as goal

abbrev pub invariant-loop-peer : goal.invariant-loop-peer
invariant-loop-peer g l = record {
  sessions : l.sessions.sessions
      ≡ filter (stays_so_far l.old.peers l.new.peers (take l.peer-index l.changed)) l.fn.sessions.sessions;
  limit : l.sessions.limit ≡ l.fn.sessions.limit;
}

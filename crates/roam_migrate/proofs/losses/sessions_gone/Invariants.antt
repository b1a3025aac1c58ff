use Rattle.std.proofs.Common.{◌≡◌, ◌+◌, drop, map}
use Rattle.roam_conf.specs.Parts.{shown_peer}
use Rattle.roam_migrate.proofs.LostSessionLemmas.{gone_with}
use Rattle.roam_migrate.proofs.losses.sessions_gone.Given as goal

abbrev pub invariant-loop-peer : goal.invariant-loop-peer
invariant-loop-peer g l =
    l.gone + gone_with (map shown_peer l.old) (map shown_peer l.new) l.sessions.sessions (drop l.peer-index l.changed)
    ≡ gone_with (map shown_peer l.old) (map shown_peer l.new) l.sessions.sessions l.changed

use Rattle.std.proofs.Common.{map}
use Rattle.roam_conf.specs.Parts.{shown_peer}
use Rattle.roam_migrate.proofs.ChangedLemmas.{AreChangedBelow}
use Rattle.roam_migrate.proofs.reload.changed_peers.Given as goal

abbrev pub invariant-loop-i : goal.invariant-loop-i
invariant-loop-i g l = AreChangedBelow (map shown_peer l.old) (map shown_peer l.new) l.i l.changed.items

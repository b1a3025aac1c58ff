use Rattle.std.proofs.Common.{◌≡◌, ◌-◌, length}
use Rattle.roam_realm.specs.Sound.{OthersStay}
use Rattle.roam_migrate.specs.Reload.{without_done}
use Rattle.roam_migrate.proofs.entries.make_way.Given as goal

abbrev pub invariant-loop-ticket : goal.invariant-loop-ticket
invariant-loop-ticket g l = record {
  left : without_done (length (g.E.Entries.entries_of l.entries l.realm) - l.most)
      (g.E.Entries.entries_of l.entries l.realm)
      ≡ without_done (length (g.E.Entries.entries_of l.fn.entries l.realm) - l.most)
      (g.E.Entries.entries_of l.fn.entries l.realm);
  others : OthersStay l.realm (g.E.Entries.entries_of l.fn.entries) (g.E.Entries.entries_of l.entries);
  kept : g.E.Entries.keeps l.entries ≡ g.E.Entries.keeps l.fn.entries;
}

abbrev pub decreases-loop-ticket : goal.decreases-loop-ticket
decreases-loop-ticket g l = length (g.E.Entries.entries_of l.entries l.realm)

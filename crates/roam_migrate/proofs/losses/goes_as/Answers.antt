use Rattle.std.proofs.Common.{ap}
use Rattle.roam_pending.specs.Shown.{seen, shown_now}
use Rattle.roam_migrate.proofs.losses.goes_as.Goals as goal

-- an entry that is looked at is one of the realm's
pub goes-goes-requires : goal.goes-goes-requires
goes-goes-requires g c = c.requires (shown_now c.in-Some.entry) (ap seen c.in-Some.is)

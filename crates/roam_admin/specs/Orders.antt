-- The orders that change something; and the place of a realm in the file. Ours.
use Rattle.std.specs.Prelude.{ℕ, Bool, true, false, Option, Some, None}
use Rattle.roam_admin.specs.declared.order.Order.{Order}
use Rattle.roam_admin.specs.declared.order.Order.TheVariants as order

-- the order changes the server, or lets go of what it stores
abbrev pub changes : Order → Bool
changes order.Metrics = false
changes (order.Status form) = false
changes order.Stop = true
changes (order.Trace shard) = true
changes (order.Reload is_agreed) = true

-- the place in the file that is noted of a realm's number, where one is
abbrev pub place_in : Option (Option ℕ) → Option ℕ
place_in (Some place) = place
place_in None = None

-- For how long `roam ctl` waits for an answer. Ours.
use Rattle.std.specs.Prelude.{ℕ, Bool, true, false, if◌then◌else◌}
use Rattle.roam_cli.specs.declared.command_line.ControlOrder.{ControlOrder}
use Rattle.roam_cli.specs.declared.command_line.ControlOrder.TheVariants as order

-- what is asked for changes the server, or lets go of what it stores
abbrev pub changes : ControlOrder → Bool
changes order.Status = false
changes (order.StatusOf realms) = false
changes order.Problems = false
changes order.StatusAsJson = false
changes order.Watch = false
changes order.Metrics = false
changes order.Stop = true
changes order.Reload = true
changes order.ReloadAndLose = true
changes (order.Trace shard) = true

-- ## Wait for an answer
-- So many seconds: 10 of what only looks; of what changes something 30, as long as the longest time that a server has
-- to end. A server answers at once that it is asked to stop; its end is waited for apart.
-- Source: ours
-- Rules out: a reload of which `roam ctl` says nothing came, while it is still prepared
-- Stands in: `roam_cli` `Waits.antt`: `seconds_of`; `seconds_of`
--
abbrev pub seconds_of : ControlOrder → ℕ
seconds_of asked = if changes asked then 30 else 10

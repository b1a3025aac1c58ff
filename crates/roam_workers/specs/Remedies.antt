-- The remedy for a call that a hub doesn't record. Ours.
use Rattle.std.specs.Prelude.{Bool, false}
use Rattle.roam_history.specs.declared.fault.HubFault.{HubFault}
use Rattle.roam_history.specs.declared.fault.HubFault.TheVariants as hub
use Rattle.roam_workers.specs.declared.context.Remedy.{Remedy}
use Rattle.roam_workers.specs.declared.context.Remedy.TheVariants as remedy

-- ## Remedy
-- What is to be done about a call that isn't recorded: where the history is full, to let go of the stored
-- steps, each time; out of memory the same, once; else nothing, and it is a refusal. That this is then done,
-- and the same event handed in again, is code.
-- Source: ours
-- Rules out: an event that is lost by a full history
-- Stands in: `roam_workers` `Remedies.antt`: `remedy_for`; `remedy_for`
--
-- a full history is let go of as often as it takes, so that no event is lost by it; for want of memory it is once
abbrev pub remedy_for : HubFault → Bool → Remedy
remedy_for hub.TraceFull is_second = remedy.LetGo
remedy_for hub.NoMemory false = remedy.FreeMemory
remedy_for _ is_second = remedy.Refuse

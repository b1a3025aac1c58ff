-- The entry that counts as gone while a new request of its key is looked at (ours).
use Rattle.std.specs.Prelude.{◌≡◌, ℕ, List, Option, Some, None, option_map}
use Rattle.roam_pending.specs.PlainEntry.{PlainEntry}
use Rattle.roam_pending.specs.EntryList.{find_ticket}
use Rattle.roam_realm.specs.Sound.{standing_place}
use Rattle.roam_rules.specs.declared.rules.replaced.Replaced.{Replaced}

-- the entry that counts as gone: its ticket, and where it waits, if it does
pub record IsGone (g : Replaced) (entries : List PlainEntry) (e : PlainEntry) : Type 0 where
  pub found : find_ticket g.ticket entries ≡ Some e
  pub place : g.waits_at ≡ standing_place e.standing

-- the ticket of the entry that counts as gone; the link where it waits
abbrev pub replaced_ticket : Option Replaced → Option ℕ
replaced_ticket replaced = option_map (λ g. g.ticket) replaced

-- an entry counts as gone, or none does
abbrev pub CountsAsReplaced : Option Replaced → List PlainEntry → Type 0
CountsAsReplaced None entries = Unit {0}
CountsAsReplaced (Some g) entries = (e : PlainEntry) × IsGone g entries e

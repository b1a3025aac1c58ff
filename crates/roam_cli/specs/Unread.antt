-- The causes why a file isn't read (ours).
use Rattle.std.specs.Prelude.{◌≡◌, ℕ, List}
use Rattle.roam_cli.specs.declared.report.Fault.{Fault}
use Rattle.roam_cli.specs.declared.report.Fault.TheVariants as fault

-- a file isn't read as text: memory is wanting, the system doesn't let it be read, or it isn't UTF-8; and the fault
-- names its path
abbrev pub IsUnread : List ℕ → Fault → Type 0
IsUnread path fault.Memory = Unit {0}
IsUnread path (fault.Unreadable named reason) = named.now ≡ path
IsUnread path (fault.NotText named line) = named.now ≡ path
IsUnread path _ = ⊥

-- The losses of a realm beside held replies, tested (ours).
use Rattle.std.specs.Prelude.{◌==◌, ◌&&◌, Bool}
use Rattle.roam_migrate.specs.declared.losses.Loss.{Loss}

-- nothing is
abbrev pub is_nothing : Loss → Bool
is_nothing loss = loss.waiting == 0 && loss.sessions == 0

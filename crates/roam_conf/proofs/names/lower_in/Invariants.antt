use Rattle.std.proofs.Common.{◌≡◌, take}
use Rattle.std.specs.Str.{str_to_ascii_lowercase}
use Rattle.roam_conf.proofs.names.lower_in.Given as goal

-- in front of the buffer stands what was read of the text
abbrev pub invariant-loop-place : goal.invariant-loop-place
invariant-loop-place l =
    take l.place l.buffer ≡ str_to_ascii_lowercase (take l.place l.text)

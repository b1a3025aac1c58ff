use Rattle.std.proofs.Common.{◌≡◌, ◌+◌, ◌∷◌, take}
use Rattle.std.specs.Str.{str_to_ascii_lowercase}
use Rattle.roam_conf.proofs.names.key_in.Given as goal

-- in front of the buffer stand the kind and what was read of the name
abbrev pub invariant-loop-place : goal.invariant-loop-place
invariant-loop-place l =
    take (1 + l.place) l.buffer ≡ l.fn.kind ∷ str_to_ascii_lowercase (take l.place l.name)

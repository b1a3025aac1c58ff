use Rattle.std.proofs.Common.{◌≡◌, ◌∷◌, ◌++◌, drop}
use Rattle.std.specs.Str.{str_to_ascii_lowercase}
use Rattle.roam_conf.proofs.names.key_of.Given as goal

-- what was pushed, and what is left of the name, are the key
abbrev pub invariant-loop-octet : goal.invariant-loop-octet
invariant-loop-octet l =
    l.key.items ++ str_to_ascii_lowercase (drop l.octet-index l.name) ≡ l.fn.kind ∷ str_to_ascii_lowercase l.fn.name

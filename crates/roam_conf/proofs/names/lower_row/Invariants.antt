use Rattle.std.proofs.Common.{◌≡◌, ◌++◌, drop}
use Rattle.std.specs.Str.{str_to_ascii_lowercase}
use Rattle.roam_conf.proofs.names.lower_row.Given as goal

-- what was pushed, and what is left of the text, are the row
abbrev pub invariant-loop-octet : goal.invariant-loop-octet
invariant-loop-octet l =
    l.row.items ++ str_to_ascii_lowercase (drop l.octet-index l.text) ≡ str_to_ascii_lowercase l.fn.text

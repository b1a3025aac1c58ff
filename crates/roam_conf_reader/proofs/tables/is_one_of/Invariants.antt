use Rattle.std.proofs.Common.{◌≡◌, drop}
use Rattle.roam_conf_reader.specs.Document.{is_one_of}
use Rattle.roam_conf_reader.specs.Tables.{shown_keys}
use Rattle.roam_conf_reader.proofs.tables.is_one_of.Given as goal

abbrev pub invariant-loop-known : goal.invariant-loop-known
invariant-loop-known l =
    is_one_of (shown_keys (drop l.known-index l.keys)) l.key ≡ is_one_of (shown_keys l.fn.keys) l.fn.key

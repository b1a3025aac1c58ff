use Rattle.std.proofs.Common.{◌≡◌, drop}
use Rattle.toml.specs.View.{table_view}
use Rattle.roam_conf_reader.specs.Document.{has_all}
use Rattle.roam_conf_reader.specs.Tables.{shown_keys}
use Rattle.roam_conf_reader.proofs.tables.has_all.Given as goal

abbrev pub invariant-loop-key : goal.invariant-loop-key
invariant-loop-key l =
    has_all (shown_keys (drop l.key-index l.keys)) (table_view l.table)
    ≡ has_all (shown_keys l.fn.keys) (table_view l.fn.table)

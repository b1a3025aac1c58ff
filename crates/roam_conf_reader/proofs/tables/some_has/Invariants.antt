use Rattle.std.proofs.Common.{◌≡◌, drop}
use Rattle.toml.specs.View.{items_view}
use Rattle.roam_conf_reader.specs.Document.{has_key, some_table}
use Rattle.roam_conf_reader.proofs.tables.some_has.Given as goal

abbrev pub invariant-loop-value : goal.invariant-loop-value
invariant-loop-value l =
    some_table (has_key l.key) (items_view (drop l.value-index l.items.items))
    ≡ some_table (has_key l.fn.key) (items_view l.fn.items.items)

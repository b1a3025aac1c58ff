use Rattle.std.proofs.Common.{◌≡◌, drop}
use Rattle.toml.specs.View.{items_view}
use Rattle.roam_conf_reader.specs.Document.{is_nowhere, some_table}
use Rattle.roam_conf_reader.proofs.tables.some_is_nowhere.Given as goal

abbrev pub invariant-loop-value : goal.invariant-loop-value
invariant-loop-value l =
    some_table is_nowhere (items_view (drop l.value-index l.items.items))
    ≡ some_table is_nowhere (items_view l.fn.items.items)

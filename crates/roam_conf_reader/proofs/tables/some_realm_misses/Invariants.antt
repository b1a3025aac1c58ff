use Rattle.std.proofs.Common.{◌≡◌, drop}
use Rattle.toml.specs.View.{items_view}
use Rattle.roam_conf_reader.specs.Document.{realm_misses, some_table}
use Rattle.roam_conf_reader.proofs.tables.some_realm_misses.Given as goal

abbrev pub invariant-loop-value : goal.invariant-loop-value
invariant-loop-value l =
    some_table realm_misses (items_view (drop l.value-index l.items.items))
    ≡ some_table realm_misses (items_view l.fn.items.items)

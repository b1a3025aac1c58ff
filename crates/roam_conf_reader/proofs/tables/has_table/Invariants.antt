use Rattle.std.proofs.Common.{◌≡◌, drop, true}
use Rattle.toml.specs.View.{items_view}
use Rattle.roam_conf_reader.specs.Document.{some_table}
use Rattle.roam_conf_reader.proofs.tables.has_table.Given as goal

abbrev pub invariant-loop-value : goal.invariant-loop-value
invariant-loop-value l =
    some_table (λ members. true) (items_view (drop l.value-index l.items.items))
    ≡ some_table (λ members. true) (items_view l.fn.items.items)

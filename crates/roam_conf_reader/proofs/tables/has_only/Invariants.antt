use Rattle.std.proofs.Common.{◌≡◌}
use Rattle.toml.specs.View.{table_view}
use Rattle.roam_conf_reader.specs.Document.{has_only}
use Rattle.roam_conf_reader.specs.Tables.{shown_keys}
use Rattle.roam_conf_reader.proofs.ArrayLemmas.{all_known}
use Rattle.roam_conf_reader.proofs.tables.has_only.Given as goal

abbrev pub invariant-loop-key : goal.invariant-loop-key
invariant-loop-key l =
    (goal.iterator-loop-key).can_next l.key-iterator × (goal.iterator-loop-key).is_finite l.key-iterator
    × (all_known (shown_keys l.required) (shown_keys l.optional) l.key-iterator
    ≡ has_only (shown_keys l.fn.required) (shown_keys l.fn.optional) (table_view l.fn.table))

use Rattle.std.proofs.Common.{map, drop}
use Rattle.toml.specs.View.{items_view}
use Rattle.roam_conf_reader.specs.Document.{StatesClient}
use Rattle.roam_conf.specs.Parts.{shown_client}
use Rattle.roam_conf_reader.proofs.EachLemmas.{Pushed}
use Rattle.roam_conf_reader.proofs.coa_client.each_from.Given as goal

abbrev pub invariant-loop-value : goal.invariant-loop-value
invariant-loop-value l =
    Pushed StatesClient (items_view l.fn.items.items) (items_view (drop l.value-index l.items.items))
    (map shown_client l.all.items)

use Rattle.std.proofs.Common.{map, drop}
use Rattle.toml.specs.View.{items_view}
use Rattle.roam_conf_reader.specs.Document.{StatesPeer}
use Rattle.roam_conf.specs.Parts.{shown_peer}
use Rattle.roam_conf_reader.proofs.EachLemmas.{Pushed}
use Rattle.roam_conf_reader.proofs.peer.all_from.Given as goal

abbrev pub invariant-loop-value : goal.invariant-loop-value
invariant-loop-value l =
    Pushed StatesPeer (items_view l.fn.items.items) (items_view (drop l.value-index l.items.items))
    (map shown_peer l.all.items)

use Rattle.std.proofs.Common.{map, drop}
use Rattle.toml.specs.View.{items_view}
use Rattle.roam_conf_reader.specs.Document.{StatesRealm}
use Rattle.roam_conf.specs.Parts.{shown_realm}
use Rattle.roam_conf_reader.proofs.EachLemmas.{Pushed}
use Rattle.roam_conf_reader.proofs.realm.all_from.Given as goal

abbrev pub invariant-loop-value : goal.invariant-loop-value
invariant-loop-value l =
    Pushed StatesRealm (items_view l.fn.items.items) (items_view (drop l.value-index l.items.items))
    (map shown_realm l.all.items)

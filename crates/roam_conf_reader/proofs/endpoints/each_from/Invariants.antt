use Rattle.std.proofs.Common.{◌≡◌, ◌++◌, drop, option_map}
use Rattle.toml.specs.View.{items_view}
use Rattle.roam_conf_reader.specs.Values.{each_of, endpoint}
use Rattle.roam_conf_reader.proofs.endpoints.each_from.Given as goal

-- the endpoints of all items are those that were read and those of the items that are left
abbrev pub invariant-loop-value : goal.invariant-loop-value
invariant-loop-value l =
    each_of endpoint (items_view l.fn.items.items)
    ≡ option_map (λ more. l.all.items ++ more) (each_of endpoint (items_view (drop l.value-index l.items.items)))

use Rattle.std.proofs.Common.{◌≡◌, ◌++◌, drop, map, option_map}
use Rattle.toml.specs.View.{items_view}
use Rattle.roam_address.specs.Prefixes.{shown_prefix}
use Rattle.roam_conf_reader.specs.Values.{each_of, prefix}
use Rattle.roam_conf_reader.proofs.prefixes.each_from.Given as goal

-- the prefixes of all items are those that were read and those of the items that are left
abbrev pub invariant-loop-value : goal.invariant-loop-value
invariant-loop-value l =
    each_of prefix (items_view l.fn.items.items)
    ≡ option_map (λ more. map shown_prefix l.all.items ++ more)
    (each_of prefix (items_view (drop l.value-index l.items.items)))

use Rattle.std.proofs.Common.{◌≡◌, ◌++◌, map, drop, option_map, string_bytes}
use Rattle.toml.specs.View.{items_view}
use Rattle.roam_conf_reader.specs.declared.values.Letters.TheVariants.{Any}
use Rattle.roam_conf_reader.specs.Values.{each_of, text, letters_of}
use Rattle.roam_conf_reader.proofs.names.each_from.Given as goal

-- the names of all items are those that were read and those of the items that are left
abbrev pub invariant-loop-value : goal.invariant-loop-value
invariant-loop-value l =
    each_of (text l.fn.most (letters_of Any)) (items_view l.fn.items.items)
    ≡ option_map (λ more. map string_bytes l.all.items ++ more)
    (each_of (text l.most (letters_of Any)) (items_view (drop l.value-index l.items.items)))

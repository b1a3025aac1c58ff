use Rattle.std.proofs.Common.{◌≡◌, ◌++◌, ◌∷◌, [], get_or, map, sym, ap, ◌∙◌, arith}
use Rattle.std.proofs.lemmas.Grind.{common_steps}
use Rattle.std.proofs.lemmas.List.{map-append}
use Rattle.roam_address.specs.Prefixes.{shown_prefix}
use Rattle.roam_conf_reader.specs.Values.{prefix}
use Rattle.roam_conf_reader.proofs.ItemsLemmas.{read_more, read_bad, read_end}
use Rattle.roam_conf_reader.proofs.prefixes.each_from.Goals as goal

-- An item states no prefix.
pub returns-in_default-clause-bad : goal.returns-in_default-clause-bad
returns-in_default-clause-bad c = λ is_bad.
    let items = c.args.items.now.items in
    let is : c.value-item.result ≡ get_or items c.loop-value.value-index c.value-item.result = c.value-item.is
    ∙ ap (λ xs. get_or xs c.loop-value.value-index c.value-item.result) c.deref-value-items.ensures.value in
    read_bad prefix _ items c.loop-value.value-index c.value-item.result (map shown_prefix c.loop-value.all.items)
    (omega arith) is (sym c.in_default.ensures) c.loop-value.invariant

-- One more item was read.
pub loop-value-preserved : goal.loop-value-preserved
loop-value-preserved c =
    let items = c.args.items.now.items in
    let is : c.value-item.result ≡ get_or items c.loop-value.value-index c.value-item.result = c.value-item.is
    ∙ ap (λ xs. get_or xs c.loop-value.value-index c.value-item.result) c.deref-value-items.ensures.value in
    let added : c.push.new.self.items ≡ c.loop-value.all.items ++ c.in-Some.prefix ∷ [] =
    grind (arith, common_steps) in
    let next = read_more prefix _ items c.loop-value.value-index c.value-item.result
    (map shown_prefix c.loop-value.all.items) (shown_prefix c.in-Some.prefix) (omega arith) is
    (sym c.in-Some.ensures) c.loop-value.invariant in
    rw (added, map-append) next

-- All items were read.
pub returns-clause-ok : goal.returns-clause-ok
returns-clause-ok c =
    read_end prefix _ c.args.items.now.items c.loop-value.value-index (map shown_prefix c.loop-value.all.items)
    (omega arith) c.loop-value.invariant

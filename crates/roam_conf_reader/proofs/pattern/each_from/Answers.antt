use Rattle.std.proofs.Common.{◌≡◌, ◌++◌, ◌∷◌, [], get_or, map, ap, ◌∙◌, arith}
use Rattle.std.proofs.lemmas.Grind.{common_steps}
use Rattle.std.proofs.lemmas.List.{map-append}
use Rattle.std.proofs.lemmas.Result.{err_from_is_err_and}
use Rattle.roam_conf.specs.Patterns.{shown_pattern}
use Rattle.roam_conf_reader.specs.Values.{pattern}
use Rattle.roam_conf_reader.proofs.ItemsLemmas.{read_more, read_bad, read_end}
use Rattle.roam_conf_reader.proofs.pattern.each_from.Goals as goal

-- An item states no pattern.
pub returns-in_err-pattern-clause-bad : goal.returns-in_err-pattern-clause-bad
returns-in_err-pattern-clause-bad c = λ is_bad.
    let items = c.args.items.now.items in
    let is : c.value-item.result ≡ get_or items c.loop-value.value-index c.value-item.result = c.value-item.is
    ∙ ap (λ xs. get_or xs c.loop-value.value-index c.value-item.result) c.deref-value-items.ensures.value in
    let fault = err_from_is_err_and c.from_residual.result c.from_residual.ensures.1 in
    read_bad pattern _ items c.loop-value.value-index c.value-item.result (map shown_pattern c.loop-value.all.items)
    (omega arith) is (c.in_err-pattern.ensures.bad (cc)) c.loop-value.invariant

-- One more item was read.
pub loop-value-preserved : goal.loop-value-preserved
loop-value-preserved c =
    let items = c.args.items.now.items in
    let is : c.value-item.result ≡ get_or items c.loop-value.value-index c.value-item.result = c.value-item.is
    ∙ ap (λ xs. get_or xs c.loop-value.value-index c.value-item.result) c.deref-value-items.ensures.value in
    let added : c.push.new.self.items ≡ c.loop-value.all.items ++ c.in_ok-pattern.pattern ∷ [] =
    grind (arith, common_steps) in
    let next = read_more pattern _ items c.loop-value.value-index c.value-item.result
    (map shown_pattern c.loop-value.all.items) _ (omega arith) is c.in_ok-pattern.ensures.ok c.loop-value.invariant in
    rw (added, map-append) next

-- All items were read.
pub returns-clause-ok : goal.returns-clause-ok
returns-clause-ok c =
    read_end pattern _ c.args.items.now.items c.loop-value.value-index (map shown_pattern c.loop-value.all.items)
    (omega arith) c.loop-value.invariant

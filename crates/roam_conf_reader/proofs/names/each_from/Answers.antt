use Rattle.std.proofs.Common.{◌≡◌, ◌++◌, ◌∷◌, [], get_or, map, string_bytes, ap, ◌∙◌, arith}
use Rattle.std.proofs.lemmas.Grind.{common_steps}
use Rattle.std.proofs.lemmas.List.{map-append}
use Rattle.std.proofs.lemmas.Result.{err_from_is_err_and}
use Rattle.roam_conf_reader.specs.declared.values.Letters.TheVariants.{Any}
use Rattle.roam_conf_reader.specs.Values.{text, letters_of}
use Rattle.roam_conf_reader.proofs.ItemsLemmas.{read_more, read_bad, read_end}
use Rattle.roam_conf_reader.proofs.names.each_from.Goals as goal

-- An item states no text.
pub returns-in_err-name-clause-bad : goal.returns-in_err-name-clause-bad
returns-in_err-name-clause-bad c = λ is_bad.
    let items = c.args.items.now.items in
    let is : c.value-item.result ≡ get_or items c.loop-value.value-index c.value-item.result = c.value-item.is
    ∙ ap (λ xs. get_or xs c.loop-value.value-index c.value-item.result) c.deref-value-items.ensures.value in
    let fault = err_from_is_err_and c.from_residual.result c.from_residual.ensures.1 in
    read_bad (text c.args.most (letters_of Any)) _ items c.loop-value.value-index c.value-item.result
    (map string_bytes c.loop-value.all.items) (omega arith) is (c.in_err-name.ensures.bad (cc)) c.loop-value.invariant

-- One more item was read.
pub loop-value-preserved : goal.loop-value-preserved
loop-value-preserved c =
    let items = c.args.items.now.items in
    let is : c.value-item.result ≡ get_or items c.loop-value.value-index c.value-item.result = c.value-item.is
    ∙ ap (λ xs. get_or xs c.loop-value.value-index c.value-item.result) c.deref-value-items.ensures.value in
    let added : c.push.new.self.items ≡ c.loop-value.all.items ++ c.in_ok-name.name ∷ [] =
    grind (arith, common_steps) in
    let next = read_more (text c.args.most (letters_of Any)) _ items c.loop-value.value-index c.value-item.result
    (map string_bytes c.loop-value.all.items) _ (omega arith) is c.in_ok-name.ensures.ok c.loop-value.invariant in
    rw (added, map-append) next

-- All items were read.
pub returns-clause-ok : goal.returns-clause-ok
returns-clause-ok c =
    read_end (text c.args.most (letters_of Any)) _ c.args.items.now.items c.loop-value.value-index
    (map string_bytes c.loop-value.all.items) (omega arith) c.loop-value.invariant

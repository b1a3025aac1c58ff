use Rattle.std.proofs.Common.{◌≡◌, ◌++◌, ◌∷◌, [], Some, sym, ap, map, get_or, ◌∙◌, arith}
use Rattle.std.proofs.lemmas.Grind.{common_steps}
use Rattle.std.proofs.lemmas.List.{map-append}
use Rattle.std.proofs.lemmas.Result.{err_from_is_err_and}
use Rattle.toml.specs.Data.{as_table}
use Rattle.toml.specs.View.{view, table_view}
use Rattle.roam_conf_reader.specs.Document.{StatesClient}
use Rattle.roam_conf.specs.Parts.{shown_client}
use Rattle.roam_conf_reader.proofs.EachLemmas.{pushed_at, pushed_bad, pushed_more, pushed_end}
use Rattle.roam_conf_reader.proofs.coa_client.each_from.Goals as goal

-- An item's table states nothing.
pub returns-in_err-client-in-Some-clause-bad : goal.returns-in_err-client-in-Some-clause-bad
returns-in_err-client-in-Some-clause-bad c = λ is_bad vs stated.
    let items = c.args.items.now.items in
    let is : c.value-item.result ≡ get_or items c.loop-value.value-index c.value-item.result = c.value-item.is
    ∙ ap (λ xs. get_or xs c.loop-value.value-index c.value-item.result) c.deref-value-items.ensures.value in
    let here = pushed_at StatesClient items c.loop-value.value-index c.value-item.result
    (map shown_client c.loop-value.all.items) (omega arith) is c.loop-value.invariant in
    let table_is : as_table (view c.value-item.result) ≡ Some (table_view c.in-Some.table.now) =
    sym c.in-Some.ensures in
    let fault = err_from_is_err_and c.from_residual.result c.from_residual.ensures.1 in
    let bad = c.in_err-client-in-Some.ensures.bad (cc) in
    pushed_bad StatesClient _ _ _ _ _ vs here table_is bad stated

-- One more item was read.
pub loop-value-preserved : goal.loop-value-preserved
loop-value-preserved c =
    let items = c.args.items.now.items in
    let is : c.value-item.result ≡ get_or items c.loop-value.value-index c.value-item.result = c.value-item.is
    ∙ ap (λ xs. get_or xs c.loop-value.value-index c.value-item.result) c.deref-value-items.ensures.value in
    let here = pushed_at StatesClient items c.loop-value.value-index c.value-item.result
    (map shown_client c.loop-value.all.items) (omega arith) is c.loop-value.invariant in
    let table_is : as_table (view c.value-item.result) ≡ Some (table_view c.in-Some.table.now) =
    sym c.in-Some.ensures in
    let added : c.push.new.self.items ≡ c.loop-value.all.items ++ c.in_ok-client-in-Some.client ∷ [] =
    grind (arith, common_steps) in
    let next = pushed_more StatesClient _ _ _ _ _ _ here table_is c.in_ok-client-in-Some.ensures.ok in
    rw (added, map-append) next

-- All items were read.
pub returns-clause-ok : goal.returns-clause-ok
returns-clause-ok c =
    pushed_end StatesClient c.args.items.now.items c.loop-value.value-index (map shown_client c.loop-value.all.items)
    (omega arith) c.loop-value.invariant

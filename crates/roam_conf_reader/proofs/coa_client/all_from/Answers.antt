use Rattle.std.proofs.Common.{◌≤◌, Err, Global, IfOk, Ok, Result, Vec, arith, map, vec_len}
use Rattle.std.proofs.lemmas.List.{length-map}
use Rattle.toml.specs.Data.{Items}
use Rattle.toml.specs.View.{array_view}
use Rattle.roam_conf.specs.Parts.{shown_client}
use Rattle.roam_conf.specs.declared.coa_client.CoaClient.{CoaClient}
use Rattle.roam_conf_reader.specs.Document.{StatesClient, StatesEach}
use Rattle.roam_conf_reader.specs.Values.{item_count}
use Rattle.roam_conf_reader.specs.declared.fault.ConfFault.{ConfFault}
use Rattle.roam_conf_reader.proofs.ArrayLemmas.{item_count_of}
use Rattle.roam_conf_reader.proofs.RangeLemmas.{each_count}
use Rattle.roam_conf_reader.proofs.coa_client.all_from.Goals as goal

-- so many values as items
few : (items : Items) (result : Result (Vec CoaClient Global) ConfFault) → item_count items ≤ 8 →
    IfOk result (λ v. StatesEach StatesClient items (map shown_client v.items)) → IfOk result (λ v. vec_len v ≤ 8)
few items (Ok v) small stated =
    omega (
      arith,
      small,
      v.ok,
      each_count StatesClient items (map shown_client v.items) stated,
      length-map v.items shown_client,
    )
few items (Err e) small stated = tt

pub returns-else-len-gt8-clause-count : goal.returns-else-len-gt8-clause-count
returns-else-len-gt8-clause-count c =
    let items = c.in-Some-as_array.items.now in
    few (array_view items) c.each_from.result
    (omega (arith, item_count_of items.items, items.ok, c.len.ensures, c.if-len-gt8.false)) c.each_from.ensures.ok

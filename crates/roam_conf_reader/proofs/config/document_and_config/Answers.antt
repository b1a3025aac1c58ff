use Rattle.std.proofs.Common.{◌≡◌, Some, None, inr, sym, ◌∙◌}
use Rattle.toml.specs.View.{table_view}
use Rattle.roam_conf_reader.specs.Faults.{first_duplicate}
use Rattle.roam_conf.specs.Shown.{shown_parts}
use Rattle.roam_conf_reader.proofs.FaultLemmas.{Reads, first_fault, all_consistent, none_holds}
use Rattle.roam_conf_reader.proofs.config.document_and_config.Goals as goal

-- The first duplicate of a configuration that was read is its first fault.
pub returns-in-Some-clause-err : goal.returns-in-Some-clause-err
returns-in-Some-clause-err c =
    let config = shown_parts c.in_ok-parts.parts in
    let reads : Reads c.args.text.now (table_view c.in_ok-table.table) config =
    record {
      parsed = c.in_ok-table.ensures.ok;
      complete = sym c.if-document_misses.ensures;
      stated =
          c.in_ok-parts.ensures.ok;
    } in
    let is : first_duplicate config ≡ Some c.in-Some.fault = sym c.in_ok-fault.ensures.ok ∙ c.in-Some.is in
    inr (first_fault c.args.text.now (table_view c.in_ok-table.table) config c.in-Some.fault reads is)

-- A configuration without duplicates has no fault.
pub returns-in_ok-new-in-None-clause-faultless : goal.returns-in_ok-new-in-None-clause-faultless
returns-in_ok-new-in-None-clause-faultless c =
    let config = shown_parts c.in_ok-parts.parts in
    let reads : Reads c.args.text.now (table_view c.in_ok-table.table) config =
    record {
      parsed = c.in_ok-table.ensures.ok;
      complete = sym c.if-document_misses.ensures;
      stated =
          c.in_ok-parts.ensures.ok;
    } in
    let is : first_duplicate config ≡ None = sym c.in_ok-fault.ensures.ok ∙ c.in-None.is in
    none_holds c.args.text.now (table_view c.in_ok-table.table) config reads (all_consistent config is)

-- A configuration without a first duplicate is consistent.
pub new-requires : goal.new-requires
new-requires c =
    let config = shown_parts c.in_ok-parts.parts in
    let is : first_duplicate config ≡ None = sym c.in_ok-fault.ensures.ok ∙ c.in-None.is in
    all_consistent config is

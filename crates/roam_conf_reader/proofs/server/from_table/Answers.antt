use Rattle.toml.specs.View.{table_view}
use Rattle.std.proofs.Common.{codes}
use Rattle.roam_conf_reader.proofs.RangeLemmas.{text_at, optional_port_at}
use Rattle.roam_conf_reader.proofs.server.from_table.Goals as goal

-- A secret that is stated is short.
pub new-requires : goal.new-requires
new-requires c =
    (text_at 64 _ (codes "secret") (table_view c.args.table.now) _ c.in-Some.ensures.secret).size.1

-- What is stated is in its range.
pub invariant_of-result : goal.invariant_of-result
invariant_of-result c =
    let members = table_view c.args.table.now in
    let stated = c.in-Some.ensures in
    record {
      secret_length = rw c.in_ok-new.ensures (text_at 64 _ (codes "secret") members _ stated.secret).size;
      ports = (
        optional_port_at (codes "auth") members c.in-Some.text.auth stated.auth,
        optional_port_at (codes "acct") members c.in-Some.text.acct stated.acct,
      );
      serves = stated.service;
    }

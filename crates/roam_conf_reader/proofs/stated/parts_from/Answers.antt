use Rattle.toml.specs.Data.{get_member}
use Rattle.toml.specs.View.{table_view, array_view}
use Rattle.std.proofs.lemmas.List.{length-map}
use Rattle.std.proofs.Common.{codes, map, arith}
use Rattle.roam_conf.specs.Parts.{shown_peer, shown_realm}
use Rattle.roam_conf.specs.Patterns.{shown_pattern}
use Rattle.roam_conf_reader.specs.Document.{StatesPeer, StatesRealm}
use Rattle.roam_conf_reader.proofs.EndpointLemmas.{endpoints_at}
use Rattle.roam_conf_reader.proofs.ListLemmas.{are_rejects}
use Rattle.roam_conf_reader.proofs.RangeLemmas.{each_range}
use Rattle.roam_conf_reader.proofs.stated.parts_from.Goals as goal

-- What is stated is in its range.
pub invariant_of-result : goal.invariant_of-result
invariant_of-result c =
    let members = table_view c.args.table.now in
    let peers = c.in_ok-all_from.field-0 in
    let realms = c.in_ok-all_from-2.field-0 in
    let reject = c.in_ok-rejects_from.field-0 in
    let auth = c.in_ok-at.field-0 in
    let acct = c.in_ok-at-2.field-0 in
    let stated = c.in-Some.ensures.0 auth.items acct.items (map shown_pattern reject.items) (map shown_peer peers.items)
    (map shown_realm realms.items) c.in_ok-at.ensures.ok c.in_ok-at-2.ensures.ok c.in_ok-rejects_from.ensures.ok
    c.in_ok-all_from.ensures.ok
    c.in_ok-all_from-2.ensures.ok in
    let auths = endpoints_at 8 (codes "auth") members _ (omega arith) stated.auth in
    let accts = endpoints_at 8 (codes "acct") members _ (omega arith) stated.acct in
    let rejects = are_rejects (get_member (codes "reject") members) (map shown_pattern reject.items)
    c.in_ok-rejects_from.ensures.ok in
    let of_peers = each_range StatesPeer shown_peer 1024 (codes "peer") members (array_view c.in-Some.text.peers.now)
    peers.items c.in-Some.ensures.1 c.in_ok-all_from.ensures.ok in
    let of_realms = each_range StatesRealm shown_realm 1024 (codes "realm") members
    (array_view c.in-Some.text.realms.now) realms.items c.in-Some.ensures.2 c.in_ok-all_from-2.ensures.ok in
    record {
      auth_count = (omega (arith, auths.size, auth.ok), omega (arith, auths.size, auth.ok));
      acct_count = (omega (arith, accts.size, acct.ok), omega (arith, accts.size, acct.ok));
      ports = (auths.ports, accts.ports);
      reject_count = omega (arith, rejects.count, reject.ok, length-map reject.items shown_pattern);
      reject_names = rejects.all;
      peer_count = (omega (arith, of_peers, peers.ok), omega (arith, of_peers, peers.ok));
      realm_count = (omega (arith, of_realms, realms.ok), omega (arith, of_realms, realms.ok));
    }

pub returns-clause-ok : goal.returns-clause-ok
returns-clause-ok c =
    c.in-Some.ensures.0 c.in_ok-at.field-0.items c.in_ok-at-2.field-0.items
    (map shown_pattern c.in_ok-rejects_from.field-0.items)
    (map shown_peer c.in_ok-all_from.field-0.items) (map shown_realm c.in_ok-all_from-2.field-0.items)
    c.in_ok-at.ensures.ok c.in_ok-at-2.ensures.ok c.in_ok-rejects_from.ensures.ok c.in_ok-all_from.ensures.ok
    c.in_ok-all_from-2.ensures.ok

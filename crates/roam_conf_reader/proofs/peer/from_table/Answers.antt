use Rattle.toml.specs.Data.{get_member}
use Rattle.toml.specs.View.{table_view}
use Rattle.std.proofs.Common.{codes, map, string_bytes, arith}
use Rattle.std.proofs.lemmas.List.{length-map}
use Rattle.roam_address.specs.Prefixes.{shown_prefix}
use Rattle.roam_wire.specs.RemovedAttributes.{is_removal_in_requests, is_removal_in_replies}
use Rattle.roam_conf.specs.Letters.{is_nas_text}
use Rattle.roam_conf_reader.specs.Values.{letters_of, removed, text}
use Rattle.roam_conf_reader.specs.declared.values.Letters.TheVariants.{Any}
use Rattle.roam_conf_reader.proofs.ListLemmas.{is_list_of, stated_nas_text, stated_removed}
use Rattle.roam_conf_reader.proofs.PrefixLemmas.{prefixes_at}
use Rattle.roam_conf_reader.proofs.RangeLemmas.{text_at, operator_value_at, optional_port_at, optional_text_at}
use Rattle.roam_conf_reader.proofs.peer.from_table.Goals as goal

-- A secret that is stated is short.
pub new-requires : goal.new-requires
new-requires c =
    let members = table_view c.args.table.now in
    let request = c.in_ok-of_requests.field-0 in
    let reply = c.in_ok-of_replies.field-0 in
    let stated = c.in-Some.ensures (map shown_prefix c.in_ok-at.field-0.items)
    (map string_bytes c.in_ok-of_access_servers.field-0.items) request.items reply.items c.in_ok-at.ensures.ok
    c.in_ok-of_access_servers.ensures.ok c.in_ok-of_requests.ensures.ok c.in_ok-of_replies.ensures.ok in
    (text_at 64 _ (codes "secret") members _ stated.secret).size.1

-- What is stated is in its range.
pub invariant_of-result : goal.invariant_of-result
invariant_of-result c =
    let members = table_view c.args.table.now in
    let request = c.in_ok-of_requests.field-0 in
    let reply = c.in_ok-of_replies.field-0 in
    let identifiers = c.in_ok-of_access_servers.field-0 in
    let prefixes = c.in_ok-at.field-0 in
    let stated = c.in-Some.ensures (map shown_prefix prefixes.items) (map string_bytes identifiers.items) request.items
    reply.items c.in_ok-at.ensures.ok c.in_ok-of_access_servers.ensures.ok c.in_ok-of_requests.ensures.ok c.in_ok-of_replies.ensures.ok in
    let of_identifiers = is_list_of (text 253 (letters_of Any)) is_nas_text stated_nas_text 1024
    (get_member (codes "nas_ids") members) (map string_bytes identifiers.items) c.in_ok-of_access_servers.ensures.ok in
    let of_requests = is_list_of (removed is_removal_in_requests) is_removal_in_requests
    (stated_removed is_removal_in_requests) 64 (get_member (codes "request_without") members) request.items
    c.in_ok-of_requests.ensures.ok in
    let of_replies = is_list_of (removed is_removal_in_replies) is_removal_in_replies
    (stated_removed is_removal_in_replies) 64 (get_member (codes "reply_without") members) reply.items
    c.in_ok-of_replies.ensures.ok in
    let name = text_at 64 _ (codes "name") members _ stated.name in
    let few = prefixes_at (codes "ip") members (map shown_prefix prefixes.items) c.in_ok-at.ensures.ok in
    record {
      name_length = rw c.in_ok-from_str.ensures.ok name.size;
      name_letters = rw c.in_ok-from_str.ensures.ok name.letters_only;
      ips_count = (
        omega (arith, few.0, length-map prefixes.items shown_prefix),
        omega (arith, few.1, length-map prefixes.items shown_prefix),
      );
      secret_length = rw c.in_ok-new.ensures (text_at 64 _ (codes "secret") members _ stated.secret).size;
      nas_id_length = optional_text_at 253 _ (codes "nas_id") members _ c.in_ok-copied.field-0 stated.nas_id
          c.in_ok-copied.ensures.ok;
      nas_ids_count = omega (arith, of_identifiers.count, identifiers.ok, length-map identifiers.items string_bytes);
      nas_ids_lengths = of_identifiers.all;
      operator_name_length = operator_value_at members _ c.in_ok-copied-2.field-0 stated.operator_name
          c.in_ok-copied-2.ensures.ok;
      few_without = (omega (arith, of_requests.count, request.ok), omega (arith, of_replies.count, reply.ok));
      request_removals = of_requests.all;
      reply_removals = of_replies.all;
      coa_port = optional_port_at (codes "coa") members c.in-Some.text.coa stated.coa;
    }

-- The table states the peer: its own values, and those of its lists.
pub returns-clause-ok : goal.returns-clause-ok
returns-clause-ok c =
    let request = c.in_ok-of_requests.field-0 in
    let reply = c.in_ok-of_replies.field-0 in
    rw (
      c.in_ok-from_str.ensures.ok,
      c.in_ok-new.ensures,
      c.in_ok-copied.ensures.ok,
      c.in_ok-copied-2.ensures.ok,
    ) (c.in-Some.ensures (map shown_prefix c.in_ok-at.field-0.items)
    (map string_bytes c.in_ok-of_access_servers.field-0.items) request.items reply.items c.in_ok-at.ensures.ok
    c.in_ok-of_access_servers.ensures.ok c.in_ok-of_requests.ensures.ok c.in_ok-of_replies.ensures.ok)

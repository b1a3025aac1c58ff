use Rattle.std.proofs.Common.{rules, ◌≡◌, [], false, map, option_map, string_bytes}
use Rattle.std.specs.Cmp.Lexicographic.{pointwise}
use Rattle.std.specs.Option.{option_eq}
use Rattle.std.specs.String.{string_eq}
use Rattle.roam_conf.proofs.EqualPartsLemmas.{endpoint_eq, endpoint_decides, list_decides, removed_eq, removed_decides, text_decides, whole_list_decides, whole_option_decides}
use Rattle.roam_conf.specs.Config.{PeerView}
use Rattle.roam_conf.specs.Parts.{shown_peer}
use Rattle.roam_reload.specs.Reload.{peer_part}
use Rattle.roam_reload.proofs.DifferenceLemmas.{agrees, differs}
use Rattle.roam_reload.proofs.peers.peer_difference.Goals as goal

-- it takes reverse requests elsewhere
pub returns-then-ne-3-clause-some : goal.returns-then-ne-3-clause-some
returns-then-ne-3-clause-some c =
    let old = c.args.old.now.coa in
    let new = c.args.new.now.coa in
    differs old new (option_eq endpoint_eq old new) c.ne-else-ne-2.result
    (whole_option_decides endpoint_eq endpoint_decides old new) c.ne-else-ne-2.ensures c.if-ne-3.true

-- it stands for other access servers
pub returns-then-ne-7-clause-some : goal.returns-then-ne-7-clause-some
returns-then-ne-7-clause-some c =
    let old = c.args.old.now.nas_ids.items in
    let new = c.args.new.now.nas_ids.items in
    differs (map string_bytes old) (map string_bytes new) (pointwise string_eq old new) c.ne-else-ne-6.result
    (list_decides string_eq string_bytes text_decides old new) c.ne-else-ne-6.ensures c.if-ne-7.true

-- other attributes are taken out of requests
pub returns-then-ne-9-clause-some : goal.returns-then-ne-9-clause-some
returns-then-ne-9-clause-some c =
    let old = c.args.old.now.request_without.items in
    let new = c.args.new.now.request_without.items in
    differs old new (pointwise removed_eq old new) c.ne-else-old-new-2.result
    (whole_list_decides removed_eq removed_decides old new) c.ne-else-old-new-2.ensures c.if-ne-9.true

-- other attributes are taken out of replies
pub returns-then-ne-10-clause-some : goal.returns-then-ne-10-clause-some
returns-then-ne-10-clause-some c =
    let old = c.args.old.now.reply_without.items in
    let new = c.args.new.now.reply_without.items in
    differs old new (pointwise removed_eq old new) c.ne-else-ne-9.result
    (whole_list_decides removed_eq removed_decides old new) c.ne-else-ne-9.ensures c.if-ne-10.true

-- peers with equal keys have equal parts
same_part : (a b : PeerView) → b.gone ≡ a.gone → b.name ≡ a.name → b.secret ≡ a.secret → b.coa ≡ a.coa →
    b.nas_ip ≡ a.nas_ip → b.nas_ipv6 ≡ a.nas_ipv6 → b.nas_id ≡ a.nas_id → b.nas_ids ≡ a.nas_ids →
    b.operator_name ≡ a.operator_name → b.ask_cui ≡ a.ask_cui → b.request_without ≡ a.request_without →
    b.reply_without ≡ a.reply_without → peer_part b ≡ peer_part a
same_part a b gone name secret coa nas_ip nas_ipv6 nas_id nas_ids operator_name ask_cui requests replies =
    λ i. record {
      gone = gone i;
      name = name i;
      ips = [];
      secret = secret i;
      coa = coa i;
      nas_ip = nas_ip i;
      nas_ipv6 = nas_ipv6 i;
      nas_id = nas_id i;
      nas_ids = nas_ids i;
      require_seal = false;
      limit_proxy_state = false;
      operator_name = operator_name i;
      ask_cui = ask_cui i;
      request_without = requests i;
      reply_without = replies i;
    }

-- no key differs
pub returns-else-ne-10-clause-none : goal.returns-else-ne-10-clause-none
returns-else-ne-10-clause-none c =
    let old = c.args.old.now in
    let new = c.args.new.now in
    let identifiers : map string_bytes new.nas_ids.items ≡ map string_bytes old.nas_ids.items =
    agrees (map string_bytes old.nas_ids.items) (map string_bytes new.nas_ids.items)
    (pointwise string_eq old.nas_ids.items new.nas_ids.items) c.ne-else-ne-6.result
    (list_decides string_eq string_bytes text_decides old.nas_ids.items new.nas_ids.items)
    c.ne-else-ne-6.ensures c.if-ne-7.false in
    let requests : new.request_without.items ≡ old.request_without.items =
    agrees old.request_without.items new.request_without.items
    (pointwise removed_eq old.request_without.items new.request_without.items) c.ne-else-old-new-2.result
    (whole_list_decides removed_eq removed_decides old.request_without.items new.request_without.items)
    c.ne-else-old-new-2.ensures c.if-ne-9.false in
    let replies : new.reply_without.items ≡ old.reply_without.items =
    agrees old.reply_without.items new.reply_without.items
    (pointwise removed_eq old.reply_without.items new.reply_without.items) c.ne-else-ne-9.result
    (whole_list_decides removed_eq removed_decides old.reply_without.items new.reply_without.items)
    c.ne-else-ne-9.ensures c.if-ne-10.false in
    let gone : new.gone ≡ old.gone = search rules in
    let name : string_bytes new.name ≡ string_bytes old.name = search rules in
    let secret : new.secret ≡ old.secret = search rules in
    let coa : new.coa ≡ old.coa =
    agrees old.coa new.coa (option_eq endpoint_eq old.coa new.coa) c.ne-else-ne-2.result
    (whole_option_decides endpoint_eq endpoint_decides old.coa new.coa) c.ne-else-ne-2.ensures c.if-ne-3.false in
    let nas_ip : new.nas_ip ≡ old.nas_ip = search rules in
    let nas_ipv6 : new.nas_ipv6 ≡ old.nas_ipv6 = search rules in
    let nas_id : option_map string_bytes new.nas_id ≡ option_map string_bytes old.nas_id = search rules in
    let operator_name : option_map string_bytes new.operator_name ≡ option_map string_bytes old.operator_name =
    search rules in
    let ask_cui : new.ask_cui ≡ old.ask_cui = search rules in
    record {
      part = same_part (shown_peer old) (shown_peer new) gone name secret coa nas_ip nas_ipv6 nas_id identifiers
          operator_name ask_cui requests replies;
      ips = search rules;
    }

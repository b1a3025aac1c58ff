use Rattle.std.proofs.Common.{rules, ◌≡◌, option_map}
use Rattle.std.specs.Option.{option_eq}
use Rattle.std.specs.Cmp.Lexicographic.{pointwise}
use Rattle.roam_conf.specs.Parts.{shown_names}
use Rattle.roam_conf.proofs.EqualPartsLemmas.{accounting_eq, accounting_decides, names_eq, names_decides, option_decides, removed_eq, removed_decides, whole_list_decides}
use Rattle.roam_reload.proofs.DifferenceLemmas.{agrees, differs}
use Rattle.roam_reload.proofs.realms.policy_difference.Goals as goal

-- other peers may ask
pub returns-then-ne-clause-some : goal.returns-then-ne-clause-some
returns-then-ne-clause-some c =
    let old = c.args.old.now.peers in
    let new = c.args.new.now.peers in
    differs (option_map shown_names old) (option_map shown_names new) (option_eq names_eq old new) c.ne.result
    (option_decides names_eq shown_names names_decides old new) c.ne.ensures c.if-ne.true

-- other attributes are taken out of requests
pub returns-then-ne-3-clause-some : goal.returns-then-ne-3-clause-some
returns-then-ne-3-clause-some c =
    let old = c.args.old.now.request_without.items in
    let new = c.args.new.now.request_without.items in
    differs old new (pointwise removed_eq old new) c.ne-else-ne-2.result
    (whole_list_decides removed_eq removed_decides old new) c.ne-else-ne-2.ensures c.if-ne-3.true

-- other attributes are taken out of replies
pub returns-then-ne-4-clause-some : goal.returns-then-ne-4-clause-some
returns-then-ne-4-clause-some c =
    let old = c.args.old.now.reply_without.items in
    let new = c.args.new.now.reply_without.items in
    differs old new (pointwise removed_eq old new) c.ne-else-ne-3.result
    (whole_list_decides removed_eq removed_decides old new) c.ne-else-ne-3.ensures c.if-ne-4.true

-- no key differs
pub returns-else-ne-5-clause-none : goal.returns-else-ne-5-clause-none
returns-else-ne-5-clause-none c =
    let old = c.args.old.now in
    let new = c.args.new.now in
    let loop : new.loop_prevention ≡ old.loop_prevention = search rules in
    let share : new.share ≡ old.share = search rules in
    record {
      peers = agrees (option_map shown_names old.peers) (option_map shown_names new.peers)
          (option_eq names_eq old.peers new.peers) c.ne.result
          (option_decides names_eq shown_names names_decides old.peers new.peers) c.ne.ensures c.if-ne.false;
      loop_prevention = loop;
      accounting = agrees old.accounting new.accounting (accounting_eq old.accounting new.accounting)
          c.ne-else-old-new.result (accounting_decides old.accounting new.accounting) c.ne-else-old-new.ensures
          c.if-ne-2.false;
      request_without = agrees old.request_without.items new.request_without.items
          (pointwise removed_eq old.request_without.items new.request_without.items) c.ne-else-ne-2.result
          (whole_list_decides removed_eq removed_decides old.request_without.items new.request_without.items)
          c.ne-else-ne-2.ensures c.if-ne-3.false;
      reply_without = agrees old.reply_without.items new.reply_without.items
          (pointwise removed_eq old.reply_without.items new.reply_without.items) c.ne-else-ne-3.result
          (whole_list_decides removed_eq removed_decides old.reply_without.items new.reply_without.items)
          c.ne-else-ne-3.ensures c.if-ne-4.false;
      share = share;
    }

use Rattle.std.proofs.Common.{rules, map}
use Rattle.std.specs.Cmp.Lexicographic.{pointwise}
use Rattle.roam_conf.specs.Parts.{shown_client}
use Rattle.roam_conf.proofs.EqualLemmas.{client_decides, client_eq}
use Rattle.roam_conf.proofs.EqualPartsLemmas.{list_decides}
use Rattle.roam_reload.proofs.DifferenceLemmas.{agrees, differs}
use Rattle.roam_reload.proofs.realms.part_difference.Goals as goal

-- reverse requests come from elsewhere
pub returns-then-ne-2-clause-some : goal.returns-then-ne-2-clause-some
returns-then-ne-2-clause-some c =
    let old = c.args.old.now.coa_clients.items in
    let new = c.args.new.now.coa_clients.items in
    differs (map shown_client old) (map shown_client new) (pointwise client_eq old new) c.ne-else-old-new-4.result
    (list_decides client_eq shown_client client_decides old new) c.ne-else-old-new-4.ensures c.if-ne-2.true

-- no key differs
pub returns-else-ne-2-clause-none : goal.returns-else-ne-2-clause-none
returns-else-ne-2-clause-none c =
    let old = c.args.old.now in
    let new = c.args.new.now in
    record {
      peer_share = search rules;
      own_names = search rules;
      conversations = search rules;
      by_user = search rules;
      own_sessions = search rules;
      coa_clients = agrees (map shown_client old.coa_clients.items) (map shown_client new.coa_clients.items)
          (pointwise client_eq old.coa_clients.items new.coa_clients.items) c.ne-else-old-new-4.result
          (list_decides client_eq shown_client client_decides old.coa_clients.items new.coa_clients.items)
          c.ne-else-old-new-4.ensures c.if-ne-2.false;
    }

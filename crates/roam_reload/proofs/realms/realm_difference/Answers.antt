use Rattle.std.proofs.Common.{rules, ◌≡◌, [], Option, Some, None, IfNone, map}
use Rattle.std.specs.Cmp.Lexicographic.{pointwise}
use Rattle.roam_conf.specs.Config.{RealmView}
use Rattle.roam_conf.specs.Parts.{shown_realm, shown_server}
use Rattle.roam_conf.proofs.EqualLemmas.{server_decides, server_eq}
use Rattle.roam_conf.proofs.EqualPartsLemmas.{list_decides, endpoint_decides, endpoint_eq, whole_list_decides}
use Rattle.roam_reload.specs.Reload.{realm_part}
use Rattle.roam_reload.specs.SameLimits.{HaveSameLimits, HaveSameParts, HaveSamePolicy}
use Rattle.roam_reload.proofs.DifferenceLemmas.{agrees, differs}
use Rattle.roam_reload.proofs.realms.realm_difference.Goals as goal

-- the same tables in this part
same_part : (a b : RealmView) → b.gone ≡ a.gone → b.out ≡ a.out → b.reverse ≡ a.reverse → b.servers ≡ a.servers →
    HaveSamePolicy a b × (HaveSameParts a b × HaveSameLimits a b) → realm_part b ≡ realm_part a
same_part a b gone out reverse servers same = λ i. record {
  gone = gone i;
  name = [];
  also = [];
  peers = same.0.peers i;
  loop_prevention = same.0.loop_prevention i;
  accounting = same.0.accounting i;
  request_without = same.0.request_without i;
  reply_without = same.0.reply_without i;
  share = same.0.share i;
  peer_share = same.1.0.peer_share i;
  own_names = same.1.0.own_names i;
  conversations = same.1.0.conversations i;
  by_user = same.1.0.by_user i;
  own_sessions = same.1.0.own_sessions i;
  coa_clients = same.1.0.coa_clients i;
  out = out i;
  reverse = reverse i;
  tries = same.1.1.tries i;
  wait = same.1.1.wait i;
  hold = same.1.1.hold i;
  max_pending = same.1.1.max_pending i;
  max_sessions = same.1.1.max_sessions i;
  rest = same.1.1.rest i;
  rest_after = same.1.1.rest_after i;
  servers = servers i;
}

if_none : {K P Q : Type 0} (o : Option K) → (P → Q) → IfNone o P → IfNone o Q
if_none None f p = f p
if_none (Some k) f p = tt

-- other endpoints
pub returns-then-ne-clause-some : goal.returns-then-ne-clause-some
returns-then-ne-clause-some c =
    let old = c.args.old.now.out.items in
    let new = c.args.new.now.out.items in
    differs old new (pointwise endpoint_eq old new) c.ne.result
    (whole_list_decides endpoint_eq endpoint_decides old new) c.ne.ensures c.if-ne.true

pub returns-then-ne-2-clause-some : goal.returns-then-ne-2-clause-some
returns-then-ne-2-clause-some c =
    let old = c.args.old.now.reverse.items in
    let new = c.args.new.now.reverse.items in
    differs old new (pointwise endpoint_eq old new) c.ne-else-ne.result
    (whole_list_decides endpoint_eq endpoint_decides old new) c.ne-else-ne.ensures c.if-ne-2.true

-- other servers
pub returns-then-ne-3-clause-some : goal.returns-then-ne-3-clause-some
returns-then-ne-3-clause-some c =
    let old = c.args.old.now.servers.items in
    let new = c.args.new.now.servers.items in
    differs (map shown_server old) (map shown_server new) (pointwise server_eq old new) c.ne-else-ne-2.result
    (list_decides server_eq shown_server server_decides old new) c.ne-else-ne-2.ensures c.if-ne-3.true

-- none of these differs
pub returns-else-ne-3-clause-none : goal.returns-else-ne-3-clause-none
returns-else-ne-3-clause-none c =
    let old = c.args.old.now in
    let new = c.args.new.now in
    let gone : new.gone ≡ old.gone = search rules in
    if_none c.other_difference.result
    (same_part (shown_realm old) (shown_realm new) gone
    (agrees old.out.items new.out.items (pointwise endpoint_eq old.out.items new.out.items) c.ne.result
    (whole_list_decides endpoint_eq endpoint_decides old.out.items new.out.items) c.ne.ensures c.if-ne.false)
    (agrees old.reverse.items new.reverse.items (pointwise endpoint_eq old.reverse.items new.reverse.items)
    c.ne-else-ne.result (whole_list_decides endpoint_eq endpoint_decides old.reverse.items new.reverse.items)
    c.ne-else-ne.ensures c.if-ne-2.false)
    (agrees (map shown_server old.servers.items) (map shown_server new.servers.items)
    (pointwise server_eq old.servers.items new.servers.items) c.ne-else-ne-2.result
    (list_decides server_eq shown_server server_decides old.servers.items new.servers.items) c.ne-else-ne-2.ensures
    c.if-ne-3.false))
    c.other_difference.ensures.none

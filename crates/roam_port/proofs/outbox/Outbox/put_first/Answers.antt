use Rattle.std.proofs.Common.{◌≡◌, ap, ◌∙◌, arith}
use Rattle.roam_port.specs.PortQueue.{after_put}
use Rattle.roam_port.specs.Queues.{IsBehind, listed_one}
use Rattle.roam_port.proofs.ListedLemmas.{at_set, count_room, count_set, from_idle, get-read, idle_is, idle_unlisted}
use Rattle.roam_port.proofs.ListedLemmas.{set_listed, room_is, room_within}
use Rattle.std.proofs.Common.{[], ◌∷◌, length}
use Rattle.std.proofs.lemmas.List.{length-append}
use Rattle.roam_port.specs.Queues.{count_waiting}
use Rattle.roam_port.proofs.BalanceLemmas.{behind_waiting, put_kept}
use Rattle.roam_port.proofs.outbox.Outbox.put_first.Goals as goal

-- One that isn't listed leaves room in the list.
pub push_reserved-requires : goal.push_reserved-requires
push_reserved-requires g c =
    let qs = c.args.self.now.queues.items in
    let q = c.index_mut.result.now in
    let at = get-read qs c.args.socket q (room_within qs c.args.socket c.requires.room) c.index_mut.ensures.value in
    let idle = from_idle q.standing (idle_is qs c.args.socket q _ at c.requires.idle) in
    let room = count_room qs c.args.socket q at (idle_unlisted q.standing idle) in
    let few = c.args.self.now.few in
    let all = c.args.self.now.room in
    omega arith

-- One more is listed.
pub invariant_of-self-clause-few : goal.invariant_of-self-clause-few
invariant_of-self-clause-few g c =
    let qs = c.args.self.now.queues.items in
    let q = c.index_mut.result.now in
    let at = get-read qs c.args.socket q (room_within qs c.args.socket c.requires.room) c.index_mut.ensures.value in
    let idle = from_idle q.standing (idle_is qs c.args.socket q _ at c.requires.idle) in
    let was : listed_one q.standing ≡ 0 = ap listed_one idle in
    let now : listed_one c.put.new.self.standing ≡ 1 =
    ap listed_one (c.put.ensures.standing ∙ ap after_put idle) in
    let counts = count_set qs c.args.socket q c.put.new.self at in
    let few = c.args.self.now.few in
    let size = c.push_reserved.ensures.len in
    omega arith

pub invariant_of-self-clause-all : goal.invariant_of-self-clause-all
invariant_of-self-clause-all g c =
    let qs = c.args.self.now.queues.items in
    let q = c.index_mut.result.now in
    let at = get-read qs c.args.socket q (room_within qs c.args.socket c.requires.room) c.index_mut.ensures.value in
    set_listed qs c.args.socket q c.put.new.self at c.args.self.now.listed.items _ c.push_reserved.ensures.items
    c.args.self.now.all

-- It is there, and has room.
pub index_mut-requires : goal.index_mut-requires
index_mut-requires g c =
    let within = room_within c.args.self.now.queues.items c.args.socket c.requires.room in
    let size = c.args.self.now.queues.ok.0 in
    omega arith

pub put-requires : goal.put-requires
put-requires g c =
    let qs = c.args.self.now.queues.items in
    let q = c.index_mut.result.now in
    let at = get-read qs c.args.socket q (room_within qs c.args.socket c.requires.room) c.index_mut.ensures.value in
    let not_full = room_is qs c.args.socket q at c.requires.room in
    let within = q.within in
    let size = q.waiting.ok.0 in
    omega arith

pub returns-clause-queues : goal.returns-clause-queues
returns-clause-queues g c =
    let qs = c.args.self.now.queues.items in
    at_set (IsBehind c.args.out) qs c.args.socket c.index_mut.result.now c.put.new.self
    (room_within qs c.args.socket c.requires.room) c.index_mut.ensures.value
    (record { behind = c.put.ensures.behind; share_stays = c.put.ensures.share })

-- One more was put, and waits.
pub invariant_of-self-clause-balanced : goal.invariant_of-self-clause-balanced
invariant_of-self-clause-balanced g c =
    let qs = c.args.self.now.queues.items in
    let q = c.index_mut.result.now in
    let at = get-read qs c.args.socket q (room_within qs c.args.socket c.requires.room) c.index_mut.ensures.value in
    let longer = ap length c.put.ensures.behind ∙ length-append q.waiting.items (c.args.out ∷ []) in
    let waiting = behind_waiting qs c.args.socket q c.put.new.self at longer in
    put_kept c.args.self.now.account c.count_put.new.self (count_waiting qs) _ c.count_put.ensures waiting
    c.args.self.now.balanced

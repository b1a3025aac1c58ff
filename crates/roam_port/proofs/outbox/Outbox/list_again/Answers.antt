use Rattle.std.proofs.Common.{◌≡◌, ap, arith}
use Rattle.roam_port.specs.Queues.{IsListedAgain, listed_one}
use Rattle.roam_port.proofs.ListedLemmas.{at_set, aside_unlisted, count_room, count_set, get-read, set_listed}
use Rattle.roam_port.proofs.ListedLemmas.{standing_is}
use Rattle.roam_port.specs.Accounts.{IsBalanced}
use Rattle.std.proofs.Common.{sym, subst, length}
use Rattle.roam_port.proofs.BalanceLemmas.{same_waiting}
use Rattle.roam_port.proofs.outbox.Outbox.list_again.Goals as goal

-- One that isn't listed leaves room in the list.
pub push_reserved-requires : goal.push_reserved-requires
push_reserved-requires g c =
    let qs = c.args.self.now.queues.items in
    let q = c.index_mut.result.now in
    let at = get-read qs c.args.socket q c.requires.within c.index_mut.ensures.value in
    let aside = standing_is qs c.args.socket q _ at c.requires.aside in
    let room = count_room qs c.args.socket q at (aside_unlisted q.standing aside) in
    let few = c.args.self.now.few in
    let all = c.args.self.now.room in
    omega arith

-- One more is listed.
pub invariant_of-self-clause-few : goal.invariant_of-self-clause-few
invariant_of-self-clause-few g c =
    let qs = c.args.self.now.queues.items in
    let q = c.index_mut.result.now in
    let at = get-read qs c.args.socket q c.requires.within c.index_mut.ensures.value in
    let was : listed_one q.standing ≡ 0 = ap listed_one (standing_is qs c.args.socket q _ at c.requires.aside) in
    let now : listed_one c.list_again.new.self.standing ≡ 1 = ap listed_one c.list_again.ensures.listed in
    let counts = count_set qs c.args.socket q c.list_again.new.self at in
    let few = c.args.self.now.few in
    let size = c.push_reserved.ensures.len in
    omega arith

pub invariant_of-self-clause-all : goal.invariant_of-self-clause-all
invariant_of-self-clause-all g c =
    let qs = c.args.self.now.queues.items in
    let q = c.index_mut.result.now in
    let at = get-read qs c.args.socket q c.requires.within c.index_mut.ensures.value in
    set_listed qs c.args.socket q c.list_again.new.self at c.args.self.now.listed.items _
    c.push_reserved.ensures.items c.args.self.now.all

pub returns-clause-queues : goal.returns-clause-queues
returns-clause-queues g c =
    at_set IsListedAgain c.args.self.now.queues.items c.args.socket c.index_mut.result.now c.list_again.new.self
    c.requires.within c.index_mut.ensures.value c.list_again.ensures

pub invariant_of-self-clause-balanced : goal.invariant_of-self-clause-balanced
invariant_of-self-clause-balanced g c =
    let qs = c.args.self.now.queues.items in
    let q = c.index_mut.result.now in
    let at = get-read qs c.args.socket q c.requires.within c.index_mut.ensures.value in
    let same = same_waiting qs c.args.socket q c.list_again.new.self at (ap length c.list_again.ensures.same_packets) in
    subst (IsBalanced c.args.self.now.account) (sym same) c.args.self.now.balanced

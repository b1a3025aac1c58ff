-- One book after the other.
use Rattle.std.proofs.Common.{◌∙◌, ◌+◌, ◌&&◌, Bool, ap, drop, sym}
use Rattle.roam_conf.specs.Shown.{shown}
use Rattle.roam_core.specs.BrokerView.{states_of}
use Rattle.roam_core.specs.ShardRooms.{only_done_from}
use Rattle.roam_core.proofs.LettingGoLemmas.{books-end, books-next}
use Rattle.roam_core.proofs.shard_room.has_only_done.Goals as goal

-- one book's were answered
pub loop-realm-preserved : goal.loop-realm-preserved
loop-realm-preserved g c =
    let config = shown c.args.config.now in
    let books = c.args.books.now in
    let realm = c.loop-realm.realm in
    let next = books-next config c.args.now c.args.shard realm books c.index-books-realm.result
    c.loop-realm-test.true c.index-books-realm.is in
    let rest = only_done_from config c.args.now c.args.shard (realm + 1) (states_of (drop (realm + 1) books)) in
    sym (ap (λ (b : Bool). b && rest) (sym c.is_done.ensures ∙ c.if-not-is_done.false)) ∙ sym next
    ∙ c.loop-realm.invariant

-- one waits
pub returns-then-not-is_done : goal.returns-then-not-is_done
returns-then-not-is_done g c =
    let config = shown c.args.config.now in
    let books = c.args.books.now in
    let realm = c.loop-realm.realm in
    let next = books-next config c.args.now c.args.shard realm books c.index-books-realm.result
    c.loop-realm-test.true c.index-books-realm.is in
    let rest = only_done_from config c.args.now c.args.shard (realm + 1) (states_of (drop (realm + 1) books)) in
    sym (ap (λ (b : Bool). b && rest) (sym c.is_done.ensures ∙ c.if-not-is_done.true)) ∙ sym next
    ∙ c.loop-realm.invariant

pub returns : goal.returns
returns g c =
    sym (books-end (shown c.args.config.now) c.args.now c.args.shard c.loop-realm.realm c.args.books.now
    c.loop-realm-test.false) ∙ c.loop-realm.invariant

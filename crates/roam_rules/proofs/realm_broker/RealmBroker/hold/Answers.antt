use Rattle.std.proofs.Common.{refl}
use Rattle.roam_pending.specs.EntryList.{find_ticket}
use Rattle.roam_rules.proofs.TickLemmas.{becomes-at, gone-by_ticket}
use Rattle.roam_rules.proofs.realm_broker.RealmBroker.hold.Goals as goal

-- the entry that goes is the one of the ticket
pub returns-in-None-clause-entries : goal.returns-in-None-clause-entries
returns-in-None-clause-entries g c =
    let realm = c.args.self.now.settings.now.index in
    let all = g.E.Entries.entries_of in
    let old = all c.args.self.now.entries.now in
    let new = all c.remove-gone.new.self in
    let gone = becomes-at old new c.index-realm.result realm c.args.ticket c.index-realm.ensures
    c.remove-gone.ensures.entries in
    rw (c.in-None.is) (gone-by_ticket realm c.args.ticket (old realm) old new
    (find_ticket c.args.ticket (old realm)) refl gone)

use Rattle.std.proofs.Common.{ap, sym, ◌∙◌}
use Rattle.roam_pending.specs.Shown.{seen}
use Rattle.roam_rules.specs.RealmTurn.{entries}
use Rattle.roam_rules.proofs.HolderLemmas.{found-held, found-none}
use Rattle.roam_rules.proofs.realm_broker.RealmBroker.waiting_at.Goals as goal

-- no ticket is parked there
pub returns-in_err-ticket : goal.returns-in_err-ticket
returns-in_err-ticket g c =
    let r = c.args.self.now in
    let none = found-none r.settings.now (entries g.E.Entries r) r.numbers.now c.args.link c.args.id
    c.requires.realm.sound c.requires.realm.list c.ranges.id.fits c.in_err-ticket.ensures.ticket in
    record { found = ap seen c.from_residual.ensures ∙ sym none }

-- the ticket that is parked there is the entry's
pub returns : goal.returns
returns g c =
    let r = c.args.self.now in
    let found = rw c.index.ensures at c.find_ticket.ensures.found in
    record {
      found = found ∙ found-held r.settings.now (entries g.E.Entries r) r.numbers.now c.args.link
          c.args.id c.in_ok-ticket.ticket c.requires.realm.sound c.requires.realm.list
          c.ranges.id.fits c.in_ok-ticket.ensures.link c.in_ok-ticket.ensures.ticket;
    }

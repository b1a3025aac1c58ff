use Rattle.std.proofs.Common.{◌≡◌, Some, sym}
use Rattle.roam_pending.specs.EntryList.{find_ticket}
use Rattle.roam_pending.specs.Shown.{shown}
use Rattle.roam_rules.specs.RealmTurn.{entries}
use Rattle.roam_realm.proofs.SoundLemmas.{kept-ticket}
use Rattle.roam_rules.proofs.realm_broker.RealmBroker.prepare_ledger.Goals as goal

-- the octets of an entry's request are a packet
pub of_packet-request-requires : goal.of_packet-request-requires
of_packet-request-requires g c =
    let r = c.args.self.now in
    let e = shown c.in-Some-find_ticket.entry.now in
    let t = c.args.settled.now.ticket in
    let es = entries g.E.Entries r in
    let found : find_ticket t es ≡ Some e = rw (← c.index-realm.ensures) (sym c.in-Some-find_ticket.ensures.found) in
    let kept = kept-ticket r.settings.now r.numbers.now.ticket t e es found c.requires.realm.sound.each in
    rw c.as_slice.ensures kept.request.packet

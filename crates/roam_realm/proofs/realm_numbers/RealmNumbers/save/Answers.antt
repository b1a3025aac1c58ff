use Rattle.roam_realm.proofs.WrittenLemmas.{gains_more}
use Rattle.roam_realm.proofs.realm_numbers.RealmNumbers.save.Goals as goal

pub loop-ticket-preserved : goal.loop-ticket-preserved
loop-ticket-preserved g c =
    gains_more c.args.settings.now c.args.self.now.sessions.sessions c.args.writing.now c.loop-ticket.writing
    c.save_one.new.writing c.loop-ticket.invariant c.in_ok-save_one.ensures

use Rattle.std.proofs.Common.{List, Option, ℕ, ap, arith}
use Rattle.std.specs.Prelude.{is_some}
use Rattle.roam_sessions.specs.Kept.{shown_asked}
use Rattle.roam_sessions.specs.Stands.{session_at}
use Rattle.roam_sessions.proofs.MarkLemmas.{marked-count, marked-open}
use Rattle.roam_sessions.proofs.table.Table.mark.Goals as goal

pub returns-clause-sound : goal.returns-clause-sound
returns-clause-sound g c =
    let sound = c.requires.sound in
    let old = c.args.self.now in
    let counted = c.count_of_peer-self.ensures sound.chain
    (ap (λ (o : Option (List ℕ)). is_some o) c.requires.no_id) in
    let sum = marked-count (shown_asked c.args.asked) c.of-self.result (session_at old.chain) old.chain.next
    sound.chain.tickets (c.of-self.ensures.asked c.requires.no_id) c.of-self.ensures.before in
    record {
      chain = sound.chain;
      before = omega (arith, c.of-self.ensures.before);
      left = omega (arith, counted, sum, sound.chain.count);
    }

pub returns-clause-sessions : goal.returns-clause-sessions
returns-clause-sessions g c =
    let old = c.args.self.now in
    marked-open (shown_asked c.args.asked) c.of-self.result (session_at old.chain) old.chain.next
    c.requires.sound.chain.tickets (c.of-self.ensures.asked c.requires.no_id) c.of-self.ensures.before
    old.ended c.requires.within

use Rattle.std.proofs.Common.{Option, ap, ◌∙◌, sym, arith}
use Rattle.roam_sessions.specs.Ended.{open_of, some_count}
use Rattle.roam_sessions.specs.Sessions.{Session}
use Rattle.roam_sessions.specs.Stands.{session_at}
use Rattle.roam_sessions.proofs.OpenLemmas.{left-some, open-goes, some-few, taken-count}
use Rattle.roam_sessions.proofs.table.Table.take.Goals as goal

pub returns-clause-sound : goal.returns-clause-sound
returns-clause-sound g c =
    let sound = c.requires.sound in
    let old = c.args.self.now in
    let F = session_at old.chain in
    let sum = sound.left ∙ sym sound.chain.count in
    let some = left-some old.ended F old.chain.next sound.chain.tickets c.args.ticket old.left c.requires.held sum in
    let few = some-few (open_of old.ended F c.args.ticket) in
    let count = taken-count old.ended F old.chain.next sound.chain.tickets (session_at c.remove.new.self) c.args.ticket
    c.remove.ensures.sessions in
    record {
      chain = c.remove.ensures.sound;
      before = omega (arith, sound.before, c.remove.ensures.next);
      left = omega (arith, sound.left, some, few, count, c.remove.ensures.count, c.left_of.ensures);
    }

pub returns-clause-sessions : goal.returns-clause-sessions
returns-clause-sessions g c =
    open-goes c.args.self.now.ended (session_at c.args.self.now.chain) (session_at c.remove.new.self) c.args.ticket
    c.remove.ensures.sessions

pub returns-clause-ended : goal.returns-clause-ended
returns-clause-ended g c = λ closed.
    let sound = c.requires.sound in
    let old = c.args.self.now in
    let none = ap (λ (o : Option Session). some_count o) closed in
    let some = left-some old.ended (session_at old.chain) old.chain.next sound.chain.tickets c.args.ticket old.left
    c.requires.held (sound.left ∙ sym sound.chain.count) in
    omega (arith, c.left_of.ensures, none, some)

use Rattle.std.proofs.Common.{◌-◌, List, length, drop, sym, ap, ◌∙◌, arith}
use Rattle.roam_sessions.specs.Sessions.{Session}
use Rattle.roam_sessions.specs.Stands.{session_at}
use Rattle.roam_sessions.proofs.OpenLemmas.{all-open-from}
use Rattle.roam_sessions.proofs.MarkLemmas.{table-open}
use Rattle.roam_sessions.proofs.table.Table.keep_newest.Goals as goal

pub returns-clause-sound : goal.returns-clause-sound
returns-clause-sound g c =
    let all = all-open-from c.none-self.result (session_at c.keep_newest.new.self) c.none-self.ensures in
    record {
      chain = c.keep_newest.ensures.sound;
      before = omega (arith, c.none-self.ensures);
      left = omega (
        arith,
        ap (λ (l : List Session). length l) all,
        c.keep_newest.ensures.sound.count,
        c.free_all.ensures.left,
      );
    }

pub returns-clause-sessions : goal.returns-clause-sessions
returns-clause-sessions g c =
    all-open-from c.none-self.result (session_at c.keep_newest.new.self) c.none-self.ensures
    ∙ c.keep_newest.ensures.sessions
    ∙ ap (λ (l : List Session). drop (length l - c.args.limit) l)
    (sym (table-open c.free_all.new.self c.free_all.ensures.sound c.free_all.ensures.left)
    ∙ c.free_all.ensures.sessions)

pub returns-clause-room : goal.returns-clause-room
returns-clause-room g c = c.keep_newest.ensures.room ∙ c.free_all.ensures.room

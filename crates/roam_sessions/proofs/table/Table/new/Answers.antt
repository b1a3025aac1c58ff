use Rattle.std.proofs.Common.{List, length, ap, ◌∙◌, arith}
use Rattle.roam_sessions.specs.Sessions.{Session}
use Rattle.roam_sessions.specs.Stands.{session_at}
use Rattle.roam_sessions.proofs.OpenLemmas.{all-open-from}
use Rattle.roam_sessions.proofs.table.Table.new.Goals as goal

pub returns-clause-sound : goal.returns-clause-sound
returns-clause-sound g c =
    let all = all-open-from c.none.result (session_at c.new.result) c.none.ensures in
    record {
      chain = c.new.ensures.sound;
      before = omega (arith, c.none.ensures);
      left = omega (arith, ap (λ (l : List Session). length l) all, c.new.ensures.sound.count);
    }

pub returns-clause-empty : goal.returns-clause-empty
returns-clause-empty g c = all-open-from c.none.result (session_at c.new.result) c.none.ensures ∙ c.new.ensures.empty

pub returns-clause-count : goal.returns-clause-count
returns-clause-count g c =
    omega (arith, ap (λ (l : List Session). length l) c.new.ensures.empty, c.new.ensures.sound.count)

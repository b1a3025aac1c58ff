use Rattle.std.proofs.Common.{List, length, sym, ap, ◌∙◌, inl, inr, arith}
use Rattle.std.proofs.lemmas.Bool.{cases_lt}
use Rattle.roam_sessions.specs.Ended.{open_sessions}
use Rattle.roam_sessions.specs.Sessions.{Session, within}
use Rattle.roam_sessions.specs.Stands.{session_at, session_count}
use Rattle.roam_sessions.proofs.OpenLemmas.{all-open-from}
use Rattle.roam_sessions.proofs.MarkLemmas.{table-open}
use Rattle.roam_sessions.proofs.SessionLemmas.{room-within}
use Rattle.roam_sessions.proofs.table.Table.keep_within.Goals as goal

pub returns-then-self-gt0-clause-sessions : goal.returns-then-self-gt0-clause-sessions
returns-then-self-gt0-clause-sessions g c =
    room-within c.args.limit (open_sessions c.args.self.now)
    (omega (arith, c.requires.sound.left, c.requires.few, c.if-self-gt0.true))

pub returns-then-self-gt0-clause-count : goal.returns-then-self-gt0-clause-count
returns-then-self-gt0-clause-count g c =
    elim (cases_lt c.args.limit (session_count c.args.self.now.chain)) [
      | inl over ↦ absurd (
          let none = c.requires.full (omega (arith, over, c.requires.few)) in
          omega (arith, none, c.if-self-gt0.true))
      | inr few ↦ few
    ]

pub returns-clause-sound : goal.returns-clause-sound
returns-clause-sound g c =
    let all = all-open-from c.none-self.result (session_at c.keep_within.new.self) c.none-self.ensures in
    record {
      chain = c.keep_within.ensures.sound;
      before = omega (arith, c.none-self.ensures);
      left = omega (
        arith,
        ap (λ (l : List Session). length l) all,
        c.keep_within.ensures.sound.count,
        c.if-self-gt0.false,
      );
    }

pub returns-clause-sessions : goal.returns-clause-sessions
returns-clause-sessions g c =
    all-open-from c.none-self.result (session_at c.keep_within.new.self) c.none-self.ensures
    ∙ c.keep_within.ensures.sessions
    ∙ ap (λ (l : List Session). within c.args.limit l)
    (sym (table-open c.args.self.now c.requires.sound (omega (arith, c.if-self-gt0.false))))

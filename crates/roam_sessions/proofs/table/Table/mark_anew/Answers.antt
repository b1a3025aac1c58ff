use Rattle.std.proofs.Common.{List, ap, ◌∙◌, arith}
use Rattle.roam_sessions.specs.Kept.{shown_asked}
use Rattle.roam_sessions.specs.Sessions.{Session, without_agreeing}
use Rattle.roam_sessions.proofs.MarkLemmas.{none-is-ended}
use Rattle.roam_sessions.proofs.table.Table.mark_anew.Goals as goal

pub mark-requires-clause-within : goal.mark-requires-clause-within
mark-requires-clause-within g c = λ t s at ended.
    absurd (let k = none-is-ended c.free_all.new.self c.free_all.ensures.sound c.free_all.ensures.left t s at in
    cc (k, ended))

pub returns-clause-sessions : goal.returns-clause-sessions
returns-clause-sessions g c =
    c.mark.ensures.sessions
    ∙ ap (λ (l : List Session). without_agreeing (shown_asked c.args.asked) l) c.free_all.ensures.sessions

pub returns-clause-count : goal.returns-clause-count
returns-clause-count g c = omega (arith, c.mark.ensures.count, c.free_all.ensures.count)

pub returns-clause-room : goal.returns-clause-room
returns-clause-room g c = c.mark.ensures.room ∙ c.free_all.ensures.room

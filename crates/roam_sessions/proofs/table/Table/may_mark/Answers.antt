use Rattle.std.proofs.Common.{sym, ◌∙◌}
use Rattle.roam_sessions.specs.Kept.{shown_asked}
use Rattle.roam_sessions.proofs.EndedLemmas.{within-agrees}
use Rattle.roam_sessions.proofs.MarkLemmas.{none-is-ended}
use Rattle.roam_sessions.proofs.table.Table.may_mark.Goals as goal

pub returns-then-self-eq0 : goal.returns-then-self-eq0
returns-then-self-eq0 g c = λ yes sound no_id t s at ended.
    absurd (let k = none-is-ended c.args.self.now sound c.if-self-eq0.true t s at in cc (k, ended))

pub returns : goal.returns
returns g c = λ yes sound no_id t s at ended.
    within-agrees (shown_asked c.args.asked) c.args.self.now.ended t s no_id (sym c.is_within.ensures ∙ yes) ended

use Rattle.std.proofs.Common.{◌∙◌}
use Rattle.roam_rules.proofs.RealmLemmas.{keeps-both}
use Rattle.roam_rules.proofs.realm_broker.RealmBroker.note_course.Goals as goal

-- one after the other they change nothing that is seen
pub returns-clause-state : goal.returns-clause-state
returns-clause-state g c =
    c.set_course-2.ensures.state ∙ c.supersede.ensures.state ∙ c.set_course.ensures.state

pub returns-clause-keeps : goal.returns-clause-keeps
returns-clause-keeps g c =
    keeps-both g.E.Entries c.args.self.now c.supersede.new.self c.set_course-2.new.self
    (keeps-both g.E.Entries c.args.self.now c.set_course.new.self c.supersede.new.self c.set_course.ensures.keeps
    c.supersede.ensures.keeps)
    c.set_course-2.ensures.keeps

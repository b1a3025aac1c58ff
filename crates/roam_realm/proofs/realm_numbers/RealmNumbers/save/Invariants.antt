use Rattle.roam_realm.specs.Written.{GainsOpen}
use Rattle.roam_realm.proofs.realm_numbers.RealmNumbers.save.Given as goal

-- so far nothing but what is open
abbrev pub invariant-loop-ticket : goal.invariant-loop-ticket
invariant-loop-ticket g l = GainsOpen l.fn.settings l.fn.self.sessions.sessions l.fn.writing l.writing

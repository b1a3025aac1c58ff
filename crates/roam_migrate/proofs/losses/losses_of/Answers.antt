use Rattle.std.proofs.Common.{ℕ, ap, ◌∙◌, arith}
use Rattle.roam_realm.specs.Sound.{state_of}
use Rattle.roam_migrate.specs.Private.Lost.{held_lost}
use Rattle.roam_migrate.proofs.LostLemmas.{few_go, held_goes, waiting_goes}
use Rattle.roam_migrate.proofs.LostSessionLemmas.{sessions_go}
use Rattle.roam_migrate.proofs.NothingLostLemmas.{nothing_lost}
use Rattle.roam_migrate.proofs.losses.losses_of.Goals as goal

-- nothing goes
pub returns-then-is_untouched : goal.returns-then-is_untouched
returns-then-is_untouched g c =
    let es = g.E.Entries.entries_of c.args.entries.now c.args.old.now.index in
    nothing_lost c.args.old.now c.args.new.now (c.is_untouched.ensures c.if-is_untouched.true)
    (state_of es c.args.numbers.now)

pub held_lost-requires : goal.held_lost-requires
held_lost-requires g c =
    let es = g.E.Entries.entries_of c.args.entries.now c.args.old.now.index in
    omega (arith, c.count_going-gone.ensures.held, few_go c.args.old.now c.args.new.now es)

pub returns : goal.returns
returns g c =
    let old = c.args.old.now in
    let new = c.args.new.now in
    let es = g.E.Entries.entries_of c.args.entries.now c.args.old.now.index in
    let gone = c.count_going-gone.ensures in
    let waiting = gone.waiting ∙ waiting_goes old new es in
    let held = c.held_lost.ensures ∙ ap (λ (n : ℕ). held_lost old new es n c.count_going-gone.result.held) gone.waiting
    ∙ ap (held_lost old new es _) gone.held ∙ held_goes old new es in
    let sessions = c.sessions_lost.ensures ∙ sessions_go old new c.args.numbers.now.sessions.sessions in
    λ i. record { waiting = waiting i; held = held i; sessions = sessions i }

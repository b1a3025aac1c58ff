use Rattle.std.proofs.Common.{◌+◌, ◌-◌, List, ℕ, drop, arith}
use Rattle.std.proofs.lemmas.Bool.Decides.{nat_tests}
use Rattle.std.proofs.lemmas.List.{length-drop}
use Rattle.roam_conf.specs.Config.{suffix}
use Rattle.roam_conf.specs.Lookup.{owner_with}
use Rattle.roam_conf.specs.Shown.{shown}
use Rattle.roam_conf.proofs.SuffixLemmas.{past_dot, past_other}
use Rattle.roam_conf.proofs.config.Config.may_follow.Goals as goal

pub returns-then-text-place-eq46-clause-short : goal.returns-then-text-place-eq46-clause-short
returns-then-text-place-eq46-clause-short c = λ may. omega (arith, c.may_have_suffix.ensures.short may)

pub returns-then-text-place-eq46-clause-dot : goal.returns-then-text-place-eq46-clause-dot
returns-then-text-place-eq46-clause-dot c = λ _. grind (arith, nat_tests)

-- a dot behind which no realm's suffix stands
pub returns-then-text-place-eq46-clause-none : goal.returns-then-text-place-eq46-clause-none
returns-then-text-place-eq46-clause-none c = λ off.
    let f = λ (name : List ℕ). owner_with (shown c.args.self.now) (suffix name) in
    let rest = drop (c.args.place + 1) c.args.text.now in
    past_dot f c.args.text.now c.args.place (omega arith) c.if-text-place-eq46.true
    (c.may_have_suffix.ensures.none off rest (omega (arith, length-drop (c.args.place + 1) c.args.text.now)))

-- another octet
pub returns-else-text-place-eq46-clause-none : goal.returns-else-text-place-eq46-clause-none
returns-else-text-place-eq46-clause-none c = λ off.
    past_other (λ (name : List ℕ). owner_with (shown c.args.self.now) (suffix name)) c.args.text.now c.args.place
    (omega arith) c.if-text-place-eq46.false

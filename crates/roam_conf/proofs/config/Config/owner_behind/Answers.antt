use Rattle.std.proofs.Common.{◌∙◌, ◌<◌, ◌+◌, List, ℕ, length, drop, arith}
use Rattle.roam_conf.specs.Config.{suffix}
use Rattle.roam_conf.specs.Lookup.{owner_with}
use Rattle.roam_conf.specs.Shown.{shown}
use Rattle.roam_conf.proofs.SuffixLemmas.{at_dot, key_at}
use Rattle.roam_conf.proofs.config.Config.owner_behind.Goals as goal

-- a dot: its suffix is looked for
pub returns-then-may_follow : goal.returns-then-may_follow
returns-then-may_follow c =
    let f = λ (name : List ℕ). owner_with (shown c.args.self.now) (suffix name) in
    let text = c.args.text.now in
    let i = c.args.place in
    let within : i < length text = omega arith in
    let dot = c.may_follow.ensures.dot c.if-may_follow.true in
    let key = c.from_place.ensures ∙ key_at text c.args.lowered.now i within c.requires.same dot in
    at_dot f text i within c.owner_of_suffix.result dot (c.owner_of_suffix.ensures (drop (i + 1) text) key)

-- no suffix that a realm has follows
pub returns-else-may_follow : goal.returns-else-may_follow
returns-else-may_follow c = c.may_follow.ensures.none c.if-may_follow.false

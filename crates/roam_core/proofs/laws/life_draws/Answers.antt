use Rattle.roam_core.proofs.LifeDrawLemmas.{draws_are_apart_in, one_draw_one_forwarding, words_are_drawn_in_order_in}
use Rattle.roam_core.proofs.laws.life_draws.Goals as goal

pub returns-clause-words : goal.returns-clause-words
returns-clause-words c = words_are_drawn_in_order_in

pub returns-clause-apart : goal.returns-clause-apart
returns-clause-apart c = draws_are_apart_in

pub returns-clause-once : goal.returns-clause-once
returns-clause-once c = one_draw_one_forwarding

-- The path is the unit's, and the order that of both words.
use Rattle.std.proofs.Common.{[], ◌∷◌, inr, refl}
use Rattle.roam_cli.proofs.control_words.of_two_order_words.Goals as goal

pub returns-in-Some : goal.returns-in-Some
returns-in-Some c = (c.args.word.now ∷ c.args.last.now ∷ [], c.in-Some.ensures, inr (refl, refl))

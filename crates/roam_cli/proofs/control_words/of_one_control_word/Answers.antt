-- The path is the unit's, and the order the word's.
use Rattle.std.proofs.Common.{[], ◌∷◌, inr, refl}
use Rattle.roam_cli.proofs.control_words.of_one_control_word.Goals as goal

pub returns-in-Some : goal.returns-in-Some
returns-in-Some c = (c.args.word.now ∷ [], c.in-Some.ensures, inr (refl, refl))

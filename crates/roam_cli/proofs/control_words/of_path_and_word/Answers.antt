-- The path is the one that is given, and the order the word's.
use Rattle.std.proofs.Common.{[], ◌∷◌, inl, refl}
use Rattle.roam_cli.proofs.control_words.of_path_and_word.Goals as goal

pub returns-in-Some : goal.returns-in-Some
returns-in-Some c = (c.args.word.now ∷ [], c.in-Some.ensures, inl (refl, c.requires))

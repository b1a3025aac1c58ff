-- The path is the one that is given, and the order that of both words.
use Rattle.std.proofs.Common.{[], ◌∷◌, inl, refl}
use Rattle.roam_cli.proofs.control_words.of_path_and_words.Goals as goal

pub returns-in-Some : goal.returns-in-Some
returns-in-Some c = (c.args.word.now ∷ c.args.last.now ∷ [], c.in-Some.ensures, inl (refl, c.requires))

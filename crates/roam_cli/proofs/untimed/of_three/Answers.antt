-- The first word is `serve`.
use Rattle.roam_cli.proofs.untimed.of_three.Goals as goal

pub returns-in-serve : goal.returns-in-serve
returns-in-serve c = rw c.in-serve.is c.of_serve.ensures

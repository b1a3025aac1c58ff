use Rattle.std.proofs.Common.{arith}
use Rattle.std.specs.Prelude.{option_map}
use Rattle.roam_forward.specs.Private.Added.{cui_of, name_of}
use Rattle.roam_forward.specs.Private.Arranged.{challenge_of}
use Rattle.roam_forward.proofs.AddedLemmas.{length-added}
use Rattle.roam_forward.proofs.added.added_len.Goals as goal

pub returns-clause-all : goal.returns-clause-all
returns-clause-all c =
    omega (
      arith,
      length-added (challenge_of c.args.added.now.challenge)
          (name_of (option_map (λ name. name.now) c.args.added.now.operator_name)) (cui_of c.args.added.now.cui),
      c.challenge_len.ensures.all,
      c.name_len.ensures.all,
      c.cui_len.ensures.all,
    )

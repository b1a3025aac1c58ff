use Rattle.std.proofs.Common.{refl, sym, ◌∙◌}
use Rattle.roam_forward.proofs.AddedLemmas.{length-name}
use Rattle.roam_forward.proofs.added.name_len.Goals as goal

pub name_size-requires : goal.name_size-requires
name_size-requires c = c.requires c.in-Some.name.now (rw c.in-Some.is refl)

pub returns-in-Some-clause-all : goal.returns-in-Some-clause-all
returns-in-Some-clause-all c = rw c.in-Some.is (c.name_size.ensures ∙ sym (length-name c.in-Some.name.now))

pub returns-in-None-clause-all : goal.returns-in-None-clause-all
returns-in-None-clause-all c = rw c.in-None.is refl

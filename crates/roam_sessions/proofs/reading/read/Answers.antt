use Rattle.std.proofs.Common.{ap, subst, ◌∙◌}
use Rattle.roam_sessions.specs.ShownLedgers.{shown_items}
use Rattle.roam_sessions.specs.Reading.{Gives, reading}
use Rattle.roam_sessions.proofs.ItemLemmas.{written_is_read}
use Rattle.roam_sessions.proofs.ReadLemmas.{is_found}
use Rattle.roam_sessions.proofs.reading.read.Goals as goal

pub returns-clause-found : goal.returns-clause-found
returns-clause-found c = is_found c.args.octets.now c.all.result c.all.ensures

pub returns-clause-only : goal.returns-clause-only
returns-clause-only c =
    λ items e. subst (λ f. Gives (λ v. shown_items v.items) c.all.result f) (ap reading e
    ∙ written_is_read items) c.all.ensures

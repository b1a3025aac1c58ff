use Rattle.std.proofs.Common.{List, Option, ℕ, Some, ap, sym, ◌∙◌}
use Rattle.std.specs.Prelude.{option_map}
use Rattle.roam_sessions.specs.Kept.{shown_asked}
use Rattle.roam_sessions.specs.Maps.{linked}
use Rattle.roam_sessions.specs.Private.Row.{row_text}
use Rattle.roam_sessions.specs.declared.asked.AskedRef.{AskedRef}
use Rattle.roam_sessions.proofs.GroupLemmas.{none-put, still-grouped}
use Rattle.roam_sessions.proofs.StayLemmas.{still}
use Rattle.roam_sessions.proofs.linked.part.Goals as goal

pub returns-in_default-clause-grouped : goal.returns-in_default-clause-grouped
returns-in_default-clause-grouped g c = λ f h grouped goes.
    let none = ap (λ (o : Option AskedRef). option_map row_text (option_map shown_asked o)) c.in_default.is in
    still-grouped f h (linked c.args.facet c.args.ends.now c.args.links.now)
    (none-put f h c.args.number goes.puts (goes.was ∙ none)) grouped

pub returns-in-Some-clause-grouped : goal.returns-in-Some-clause-grouped
returns-in-Some-clause-grouped g c = λ f h grouped goes.
    let is = ap (λ (o : Option AskedRef). option_map row_text (option_map shown_asked o)) c.in-Some.is in
    c.unlink.ensures.grouped f h grouped (record {
      was = goes.was ∙ is ∙ ap (λ (l : List ℕ). Some l) (sym (c.as_slice.ensures ∙ c.of.ensures));
      puts = goes.puts;
    })

pub returns-in_default-clause-stay : goal.returns-in_default-clause-stay
returns-in_default-clause-stay g c = still c.args.links.now

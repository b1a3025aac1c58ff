use Rattle.std.proofs.Common.{ℕ, List, Option, ap, ◌∙◌}
use Rattle.std.specs.Option.{option_map_or}
use Rattle.roam_sessions.specs.Facets.{facet_of}
use Rattle.roam_sessions.specs.Kept.{shown_asked}
use Rattle.roam_sessions.specs.Maps.{ends_at}
use Rattle.roam_sessions.specs.Private.Groups.{PlainGroups}
use Rattle.roam_sessions.specs.Private.Row.{row_text}
use Rattle.roam_sessions.specs.declared.ends.Ends.{Ends}
use Rattle.roam_sessions.proofs.FacetLemmas.{count-agreeing, facet-grouped}
use Rattle.roam_sessions.proofs.facets.Facets.count.Goals as goal

pub returns : goal.returns
returns g c = λ F b are none.
    let q = shown_asked c.args.asked in
    let grouped = facet-grouped q c.args.self.now F b are none in
    let p : PlainGroups = record { ends = facet_of q c.args.self.now; beside = grouped.0 } in
    c.count_in.ensures
    ∙ ap (λ (row : List ℕ). option_map_or (λ (e : Ends). e.count) (ends_at c.ends_for.result.now row) 0)
    (c.as_slice.ensures ∙ c.of.ensures)
    ∙ ap (λ (h : List ℕ → Option Ends). option_map_or (λ (e : Ends). e.count) (h (row_text q)) 0) c.ends_for.ensures
    ∙ count-agreeing q F p grouped.1

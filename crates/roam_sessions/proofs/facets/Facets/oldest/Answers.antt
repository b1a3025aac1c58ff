use Rattle.std.proofs.Common.{ℕ, List, Option, sym, ap, ◌∙◌, subst}
use Rattle.std.specs.Prelude.{option_map}
use Rattle.roam_sessions.specs.Facets.{facet_of}
use Rattle.roam_sessions.specs.Kept.{shown_asked}
use Rattle.roam_sessions.specs.Maps.{ends_at}
use Rattle.roam_sessions.specs.Private.Groups.{PlainGroups}
use Rattle.roam_sessions.specs.Private.Row.{row_text}
use Rattle.roam_sessions.specs.Private.Tickets.{IsOneOf, NoneBefore}
use Rattle.roam_sessions.specs.Sessions.{agrees}
use Rattle.roam_sessions.specs.declared.ends.Ends.{Ends}
use Rattle.roam_sessions.proofs.FacetLemmas.{facet-grouped, none-before, oldest-agreeing}
use Rattle.roam_sessions.proofs.facets.Facets.oldest.Goals as goal

pub returns-clause-agrees : goal.returns-clause-agrees
returns-clause-agrees g c = λ F b are none.
    let q = shown_asked c.args.asked in
    let grouped = facet-grouped q c.args.self.now F b are none in
    let p : PlainGroups = record { ends = facet_of q c.args.self.now; beside = grouped.0 } in
    let is = c.oldest_in.ensures
    ∙ ap (λ (row : List ℕ). option_map (λ (e : Ends). e.oldest) (ends_at c.ends_for.result.now row))
    (c.as_slice.ensures ∙ c.of.ensures)
    ∙ ap (λ (h : List ℕ → Option Ends). option_map (λ (e : Ends). e.oldest) (h (row_text q))) c.ends_for.ensures in
    subst (λ (o : Option ℕ). IsOneOf (agrees q) F o) (sym is) (oldest-agreeing q F p grouped.1)

pub returns-clause-first : goal.returns-clause-first
returns-clause-first g c = λ F b are none.
    let q = shown_asked c.args.asked in
    let grouped = facet-grouped q c.args.self.now F b are none in
    let p : PlainGroups = record { ends = facet_of q c.args.self.now; beside = grouped.0 } in
    let is = c.oldest_in.ensures
    ∙ ap (λ (row : List ℕ). option_map (λ (e : Ends). e.oldest) (ends_at c.ends_for.result.now row))
    (c.as_slice.ensures ∙ c.of.ensures)
    ∙ ap (λ (h : List ℕ → Option Ends). option_map (λ (e : Ends). e.oldest) (h (row_text q))) c.ends_for.ensures in
    subst (λ (o : Option ℕ). NoneBefore (agrees q) F o) (sym is) (none-before q F p grouped.1)

use Rattle.std.proofs.Common.{[], option_map, ap, sym, ◌∙◌}
use Rattle.std.specs.Option.{option_map_or}
use Rattle.roam_conf.specs.Parts.{shown_realm}
use Rattle.roam_reload.specs.Kept.{Source}
use Rattle.roam_reload.specs.Sources.{shown_source}
use Rattle.roam_reload.proofs.SourceLemmas.{secret_shared}
use Rattle.roam_reload.proofs.sources.secret_of.Goals as goal

pub returns-in-Some : goal.returns-in-Some
returns-in-Some c =
    ap (λ o. option_map_or (λ (s : Source). s.secret) (option_map shown_source o) []) (sym c.in-Some.is)
    ∙ ap (λ o. option_map_or (λ (s : Source). s.secret) o []) c.source_of.ensures
    ∙ secret_shared (shown_realm c.args.realm.now) c.args.home

pub returns-in-None : goal.returns-in-None
returns-in-None c =
    ap (λ o. option_map_or (λ (s : Source). s.secret) (option_map shown_source o) []) (sym c.in-None.is)
    ∙ ap (λ o. option_map_or (λ (s : Source). s.secret) o []) c.source_of.ensures
    ∙ secret_shared (shown_realm c.args.realm.now) c.args.home

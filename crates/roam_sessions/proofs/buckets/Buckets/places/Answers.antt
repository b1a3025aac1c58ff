use Rattle.std.proofs.Common.{ap, ◌∙◌}
use Rattle.roam_sessions.specs.Private.Buckets.{bucket_in}
use Rattle.roam_sessions.specs.Private.Masks.{without_names}
use Rattle.roam_sessions.specs.Private.Row.{row_text}
use Rattle.roam_sessions.specs.Sessions.{Asked}
use Rattle.roam_sessions.proofs.buckets.Buckets.places.Goals as goal

pub returns-clause-whole : goal.returns-clause-whole
returns-clause-whole c =
    c.of-2.ensures
    ∙ ap (bucket_in c.args.self.now) (c.as_slice.ensures ∙ c.of.ensures ∙ ap row_text c.asked-asked.ensures)

pub returns-clause-id : goal.returns-clause-id
returns-clause-id c =
    c.of-4.ensures
    ∙ ap (bucket_in c.args.self.now) (c.as_slice-2.ensures ∙ c.of-3.ensures ∙ ap row_text c.without_names.ensures
    ∙ ap (λ (q : Asked). row_text (without_names q)) c.asked-asked.ensures)

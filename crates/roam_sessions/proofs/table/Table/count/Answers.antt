use Rattle.std.proofs.Common.{ℕ, length, ap, ◌∙◌}
use Rattle.roam_sessions.specs.Ended.{agreeing_at, where_open}
use Rattle.roam_sessions.specs.Facets.{id_buckets}
use Rattle.roam_sessions.specs.Kept.{shown_asked}
use Rattle.roam_sessions.specs.Private.Buckets.{bucket_in, bucket_text}
use Rattle.roam_sessions.specs.Private.Groups.{in_group}
use Rattle.roam_sessions.specs.Private.Row.{row_text}
use Rattle.roam_sessions.specs.Private.Tickets.{all_listed}
use Rattle.roam_sessions.specs.Stands.{session_at}
use Rattle.roam_sessions.proofs.PartedLemmas.{agreeing-open}
use Rattle.roam_sessions.proofs.table.Table.count.Goals as goal

pub returns : goal.returns
returns g c = λ sound is.
    let table = c.args.self.now in
    let q = shown_asked c.args.asked in
    let F = session_at table.chain in
    let b = table.chain.of_peer.buckets in
    let row = c.as_slice.ensures ∙ c.of-row.ensures ∙ ap row_text c.without_names.ensures in
    c.count_agreeing.ensures sound
    ∙ ap (λ (n : ℕ). length (all_listed (in_group (where_open (agreeing_at q table) (id_buckets b F)) (bucket_text n))))
    (c.of.ensures ∙ ap (bucket_in b) row)
    ∙ agreeing-open b table.ended F q is

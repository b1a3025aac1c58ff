use Rattle.std.proofs.Common.{◌≡◌, ℕ, ap, ◌∙◌, arith, length}
use Rattle.roam_migrate.specs.Losses.{count_held, count_waiting}
use Rattle.roam_migrate.proofs.LostLemmas.{all_entries}
use Rattle.roam_migrate.proofs.losses.all_of.Goals as goal

pub returns : goal.returns
returns g c =
    let es = g.E.Entries.entries_of c.args.entries.now c.args.old.now.index in
    let one = ap (λ (r : ℕ). count_held (g.E.Entries.entries_of c.args.entries.now r)) c.index.ensures in
    let other = ap (λ (r : ℕ). length (g.E.Entries.entries_of c.args.entries.now r)) c.index-2.ensures in
    let held : c.held_in-held.result ≡ count_held es = c.held_in-held.ensures ∙ one in
    let waiting : c.saturating_sub.result ≡ count_waiting es = omega (arith, all_entries es, held, other) in
    λ i. record { waiting = waiting i; held = held i; sessions = c.len-2.ensures i }

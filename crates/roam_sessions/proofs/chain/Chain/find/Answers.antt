use Rattle.std.proofs.Common.{◌≡◌, ◌+◌, ℕ, Option, sym, ap, ◌∙◌, subst, arith}
use Rattle.std.specs.Prelude.{option_and_then}
use Rattle.roam_sessions.specs.Ended.{open_count}
use Rattle.roam_sessions.specs.Facets.{whole_buckets}
use Rattle.roam_sessions.specs.Kept.{shown_session}
use Rattle.roam_sessions.specs.Maps.{chained}
use Rattle.roam_sessions.specs.Private.Buckets.{bucket_in, bucket_text, same_at}
use Rattle.roam_sessions.specs.Private.Groups.{newer_of}
use Rattle.roam_sessions.specs.Private.Row.{row_text}
use Rattle.roam_sessions.specs.Stands.{session_at}
use Rattle.roam_sessions.specs.declared.links.Facet.TheVariants as facet
use Rattle.roam_sessions.proofs.BucketLemmas.{none-is, session-found, session-uncounted}
use Rattle.roam_sessions.proofs.FacetLemmas.{count-is}
use Rattle.roam_sessions.proofs.WalkLemmas.{Walks, walk-begins, walk-ends, walk-goes}
use Rattle.roam_sessions.proofs.chain.Chain.find.Goals as goal

pub loop-i-init : goal.loop-i-init
loop-i-init g c = λ sound grouped.
    let chain = c.args.self.now in
    let s = shown_session c.args.session in
    let O = same_at s (session_at chain) in
    let f = whole_buckets chain.of_peer.buckets (session_at chain) in
    let p = chained facet.Whole chain.of_peer.by_whole chain.by_ticket in
    let row = bucket_text c.of-bucket.result in
    subst (λ (o : Option ℕ). Walks O f p row grouped 0 0 o) (sym c.oldest_of-at.ensures) (walk-begins O f p row grouped)

pub loop-i-preserved : goal.loop-i-preserved
loop-i-preserved g c = λ sound grouped.
    let chain = c.args.self.now in
    let s = shown_session c.args.session in
    let O = same_at s (session_at chain) in
    let f = whole_buckets chain.of_peer.buckets (session_at chain) in
    let p = chained facet.Whole chain.of_peer.by_whole chain.by_ticket in
    let row = bucket_text c.of-bucket.result in
    let l = c.loop-i in
    let all = count-is f p row grouped in
    let goes = walk-goes O f p row grouped l.i 0 l.at (l.invariant sound grouped)
    (omega (arith, c.loop-i-test.true, c.count_of-i-end.ensures, all)) in
    let none : 0 + open_count O l.at ≡ 0 =
    session-uncounted s (session_at chain) l.at c.if-is_at.ensures in
    subst (λ (o : Option ℕ). Walks O f p row grouped (l.i + 1) 0 o) (sym c.newer_in-at.ensures)
    (subst (λ (n : ℕ). Walks O f p row grouped (l.i + 1) n (option_and_then (newer_of p) l.at)) none goes)

pub returns-then-is_at : goal.returns-then-is_at
returns-then-is_at g c = λ sound.
    session-found (shown_session c.args.session) (session_at c.args.self.now) c.loop-i.at c.if-is_at.ensures

pub returns : goal.returns
returns g c = λ sound.
    let chain = c.args.self.now in
    let s = shown_session c.args.session in
    let F = session_at chain in
    let O = same_at s F in
    let f = whole_buckets chain.of_peer.buckets F in
    let p = chained facet.Whole chain.of_peer.by_whole chain.by_ticket in
    let row = bucket_text c.of-bucket.result in
    let l = c.loop-i in
    let grouped = sound.of_peer.by_whole in
    let all = count-is f p row grouped in
    none-is s F chain.of_peer.buckets p c.of-bucket.result grouped
    (c.of-bucket.ensures ∙ ap (bucket_in chain.of_peer.buckets) (c.as_slice.ensures ∙ c.of-row.ensures ∙ ap row_text c.asked.ensures))
    (walk-ends O f p row grouped l.i 0 l.at (l.invariant sound grouped)
    (omega (arith, c.loop-i-test.false, c.count_of-i-end.ensures, all)))

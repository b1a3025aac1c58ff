use Rattle.std.proofs.Common.{◌≡◌, ◌+◌, ◌-◌, ◌^◌, ℕ, Option, min, sym, ap, subst, arith}
use Rattle.std.specs.Prelude.{option_and_then}
use Rattle.roam_wire.specs.Numbered.{tickets_end}
use Rattle.roam_sessions.specs.Ended.{agreeing_at, if_agrees, open_count}
use Rattle.roam_sessions.specs.Facets.{id_buckets}
use Rattle.roam_sessions.specs.Kept.{shown_asked}
use Rattle.roam_sessions.specs.Maps.{chained}
use Rattle.roam_sessions.specs.Private.Buckets.{bucket_text}
use Rattle.roam_sessions.specs.Private.Groups.{newer_of}
use Rattle.roam_sessions.specs.Stands.{session_at}
use Rattle.roam_sessions.specs.declared.links.Facet.TheVariants as facet
use Rattle.roam_sessions.proofs.FacetLemmas.{count-is}
use Rattle.roam_sessions.proofs.MarkLemmas.{table-tickets}
use Rattle.roam_sessions.proofs.WalkLemmas.{Walks, walk-begins, walk-bound, walk-ends, walk-goes}
use Rattle.roam_sessions.proofs.table.Table.count_agreeing.Goals as goal

pub loop-i-init : goal.loop-i-init
loop-i-init g c = λ sound grouped.
    let O = agreeing_at (shown_asked c.args.asked) c.args.self.now in
    let f = id_buckets c.args.self.now.chain.of_peer.buckets (session_at c.args.self.now.chain) in
    let p = chained facet.Id c.args.self.now.chain.of_peer.by_id c.args.self.now.chain.by_ticket in
    subst (λ (o : Option ℕ). Walks O f p (bucket_text c.args.bucket) grouped 0 0 o) (sym c.oldest_of-at.ensures)
    (walk-begins O f p (bucket_text c.args.bucket) grouped)

pub loop-i-preserved : goal.loop-i-preserved
unfolding tickets_end
loop-i-preserved g c = λ sound grouped.
    let O = agreeing_at (shown_asked c.args.asked) c.args.self.now in
    let f = id_buckets c.args.self.now.chain.of_peer.buckets (session_at c.args.self.now.chain) in
    let p = chained facet.Id c.args.self.now.chain.of_peer.by_id c.args.self.now.chain.by_ticket in
    let row = bucket_text c.args.bucket in
    let l = c.loop-i in
    let walks = l.invariant sound grouped in
    let all = count-is f p row grouped in
    let goes = walk-goes O f p row grouped l.i l.count l.at walks
    (omega (arith, c.loop-i-test.true, c.count_of-i-end.ensures, all)) in
    let bound = walk-bound O f p row grouped l.i l.count c.args.self.now.chain.next l.at walks
    (λ u le. ap (option_and_then (if_agrees (shown_asked c.args.asked)))
    ((table-tickets c.args.self.now sound).given u le)) in
    let counted : l.count + open_count O l.at ≡ min (l.count + c.agreeing_of.result) (2 ^ 64 - 1) =
    omega (arith, c.agreeing_of.ensures, bound, sound.chain.tickets.within) in
    let added : min (l.count + c.agreeing_of.result) (2 ^ 64 - 1) ≡ c.saturating_add-count.result =
    omega (arith, c.saturating_add-count.ensures) in
    subst (λ (n : ℕ). Walks O f p row grouped (l.i + 1) n c.newer_in-at.result) added
    (subst (λ (o : Option ℕ). Walks O f p row grouped (l.i + 1) (min (l.count + c.agreeing_of.result) (2 ^ 64 - 1)) o)
    (sym c.newer_in-at.ensures)
    (subst (λ (n : ℕ). Walks O f p row grouped (l.i + 1) n (option_and_then (newer_of p) l.at)) counted goes))

pub returns : goal.returns
returns g c = λ sound.
    let l = c.loop-i in
    let f = id_buckets c.args.self.now.chain.of_peer.buckets (session_at c.args.self.now.chain) in
    let p = chained facet.Id c.args.self.now.chain.of_peer.by_id c.args.self.now.chain.by_ticket in
    let grouped = sound.chain.of_peer.by_id in
    walk-ends (agreeing_at (shown_asked c.args.asked) c.args.self.now) f p (bucket_text c.args.bucket) grouped l.i l.count l.at
    (l.invariant sound grouped)
    (let all = count-is f p (bucket_text c.args.bucket) grouped in
    omega (arith, c.loop-i-test.false, c.count_of-i-end.ensures, all))

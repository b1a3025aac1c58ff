use Rattle.roam_sessions.specs.Ended.{IsTable, agreeing_at}
use Rattle.roam_sessions.specs.Facets.{id_buckets}
use Rattle.roam_sessions.specs.Kept.{shown_asked}
use Rattle.roam_sessions.specs.Maps.{chained}
use Rattle.roam_sessions.specs.Private.Buckets.{bucket_text}
use Rattle.roam_sessions.specs.Private.Groups.{IsGrouped}
use Rattle.roam_sessions.specs.Stands.{session_at}
use Rattle.roam_sessions.specs.declared.links.Facet.TheVariants as facet
use Rattle.roam_sessions.proofs.WalkLemmas.{Walks}
use Rattle.roam_sessions.proofs.table.Table.count_agreeing.Given as goal

-- those that were looked at were counted, and the next one is known
abbrev pub invariant-loop-i : goal.invariant-loop-i
invariant-loop-i g l =
    IsTable l.self → (grouped : IsGrouped (id_buckets l.self.chain.of_peer.buckets (session_at l.self.chain))
    (chained facet.Id l.self.chain.of_peer.by_id l.self.chain.by_ticket))
    → Walks (agreeing_at (shown_asked l.asked) l.self) (id_buckets l.self.chain.of_peer.buckets (session_at l.self.chain))
    (chained facet.Id l.self.chain.of_peer.by_id l.self.chain.by_ticket) (bucket_text l.bucket) grouped l.i l.count l.at

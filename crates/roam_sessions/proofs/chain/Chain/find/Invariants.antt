use Rattle.roam_sessions.specs.Facets.{whole_buckets}
use Rattle.roam_sessions.specs.Kept.{shown_session}
use Rattle.roam_sessions.specs.Maps.{chained}
use Rattle.roam_sessions.specs.Private.Buckets.{bucket_text, same_at}
use Rattle.roam_sessions.specs.Private.Groups.{IsGrouped}
use Rattle.roam_sessions.specs.Stands.{IsSound, session_at}
use Rattle.roam_sessions.specs.declared.links.Facet.TheVariants as facet
use Rattle.roam_sessions.proofs.WalkLemmas.{Walks}
use Rattle.roam_sessions.proofs.chain.Chain.find.Given as goal

-- none of those that were looked at is the session, and the next one is known
abbrev pub invariant-loop-i : goal.invariant-loop-i
invariant-loop-i g l =
    IsSound l.self → (grouped : IsGrouped (whole_buckets l.self.of_peer.buckets (session_at l.self))
    (chained facet.Whole l.self.of_peer.by_whole l.self.by_ticket))
    → Walks (same_at (shown_session l.session) (session_at l.self)) (whole_buckets l.self.of_peer.buckets (session_at l.self))
    (chained facet.Whole l.self.of_peer.by_whole l.self.by_ticket) (bucket_text l.bucket) grouped l.i 0 l.at

use Rattle.std.proofs.Common.{ℕ, List, length, Option, sym, ap, ◌∙◌, subst, arith}
use Rattle.roam_wire.specs.Numbered.{tickets_end}
use Rattle.roam_sessions.specs.Facets.{grouped}
use Rattle.roam_sessions.specs.Maps.{ends_at, linked_by}
use Rattle.roam_sessions.specs.Private.Groups.{IsLargest}
use Rattle.roam_sessions.specs.Sessions.{Session, has_most, without_first}
use Rattle.roam_sessions.specs.Stands.{session_at}
use Rattle.roam_sessions.specs.declared.links.Facet.TheVariants as facet
use Rattle.roam_sessions.proofs.ListedLemmas.{listed-none}
use Rattle.roam_sessions.proofs.WholeLemmas.{made-way, nobody-there, victim-held}
use Rattle.roam_sessions.proofs.chain.Chain.remove_of_most.Goals as goal

pub remove-requires-clause-held : goal.remove-requires-clause-held
remove-requires-clause-held g c =
    victim-held (session_at c.args.self.now) (grouped (ends_at c.args.self.now.of_peer.by_peer) (linked_by c.args.self.now.by_ticket facet.Peer))
    c.requires.of_peer.by_peer c.in-Some.ticket
    (subst (λ (o : Option ℕ). IsLargest (grouped (ends_at c.args.self.now.of_peer.by_peer) (linked_by c.args.self.now.by_ticket facet.Peer)) o) c.in-Some.is
    (c.oldest_of_most.ensures (linked_by c.args.self.now.by_ticket facet.Peer)))

pub returns-in-Some-clause-sessions : goal.returns-in-Some-clause-sessions
returns-in-Some-clause-sessions g c =
    made-way (session_at c.args.self.now) (grouped (ends_at c.args.self.now.of_peer.by_peer) (linked_by c.args.self.now.by_ticket facet.Peer))
    c.requires.of_peer.by_peer c.in-Some.ticket
    (subst (λ (o : Option ℕ). IsLargest (grouped (ends_at c.args.self.now.of_peer.by_peer) (linked_by c.args.self.now.by_ticket facet.Peer)) o) c.in-Some.is
    (c.oldest_of_most.ensures (linked_by c.args.self.now.by_ticket facet.Peer)))
    (session_at c.remove.new.self) c.remove.ensures.sessions

pub returns-in_default-clause-sessions : goal.returns-in_default-clause-sessions
returns-in_default-clause-sessions g c =
    let nobody = nobody-there (session_at c.args.self.now) (grouped (ends_at c.args.self.now.of_peer.by_peer) (linked_by c.args.self.now.by_ticket facet.Peer))
    c.requires.of_peer.by_peer
    (subst (λ (o : Option ℕ). IsLargest (grouped (ends_at c.args.self.now.of_peer.by_peer) (linked_by c.args.self.now.by_ticket facet.Peer)) o) c.in_default.is
    (c.oldest_of_most.ensures (linked_by c.args.self.now.by_ticket facet.Peer))) in
    let none = listed-none (session_at c.args.self.now) 0 tickets_end (λ u le. nobody u) in
    none ∙ sym (ap (λ (l : List Session). without_first (has_most l) l) none)

pub returns-in_default-clause-count : goal.returns-in_default-clause-count
returns-in_default-clause-count g c =
    let nobody = nobody-there (session_at c.args.self.now) (grouped (ends_at c.args.self.now.of_peer.by_peer) (linked_by c.args.self.now.by_ticket facet.Peer))
    c.requires.of_peer.by_peer
    (subst (λ (o : Option ℕ). IsLargest (grouped (ends_at c.args.self.now.of_peer.by_peer) (linked_by c.args.self.now.by_ticket facet.Peer)) o) c.in_default.is
    (c.oldest_of_most.ensures (linked_by c.args.self.now.by_ticket facet.Peer))) in
    let none = listed-none (session_at c.args.self.now) 0 tickets_end (λ u le. nobody u) in
    omega (arith, c.requires.count, ap (λ (l : List Session). length l) none)

use Rattle.std.proofs.Common.{◌≡◌, ◌≢◌, None, Some, false, ℕ, Option, ap, ◌∙◌, subst, arith}
use Rattle.roam_wire.specs.Numbered.{PutsAt}
use Rattle.roam_sessions.specs.Ended.{IsTable, open_at, open_sessions}
use Rattle.roam_sessions.specs.Kept.{kept_session}
use Rattle.roam_sessions.specs.Private.Tickets.{IsTicketOf}
use Rattle.roam_sessions.specs.Sessions.{Session, has_session}
use Rattle.roam_sessions.specs.Stands.{session_at}
use Rattle.roam_sessions.specs.declared.table.Table.{Table}
use Rattle.roam_sessions.proofs.NeighbourLemmas.{held-some}
use Rattle.roam_sessions.proofs.PairLemmas.{closed-goes, goes-was}
use Rattle.roam_sessions.proofs.OpenLemmas.{closed-there}
use Rattle.roam_sessions.proofs.MarkLemmas.{table-tickets}
use Rattle.roam_sessions.proofs.SoundLemmas.{no-ticket}
use Rattle.roam_sessions.proofs.table.Table.free_twin.Goals as goal

-- a row whose session isn't open was ended
closed : {A : Type 0} (c : Table A) → IsTable c → (s : Session) → has_session s (open_sessions c) ≡ false → (t : ℕ)
    → session_at c.chain t ≡ Some s → open_at c t ≡ None
closed c sound s absent t at =
    closed-there c.ended (session_at c.chain) c.chain.next sound.chain.tickets s
    (no-ticket (open_at c) c.chain.next (table-tickets c sound) s absent) t at

-- its row was the only one
absent-now : {A : Type 0} (c : Table A) → IsTable c → (G : ℕ → Option Session) (s : Session) (t : ℕ)
    → session_at c.chain t ≡ Some s → PutsAt (session_at c.chain) G t None → (u : ℕ) → G u ≢ Some s
absent-now c sound G s t at goes u there =
    let was = goes-was (session_at c.chain) G t u s goes there in
    let same : u ≡ t = sound.chain.tickets.distinct u t s was at in
    let gone : G u ≡ None = ap G same ∙ goes.changed in
    cc (gone, there)

pub take-requires-clause-held : goal.take-requires-clause-held
take-requires-clause-held g c =
    let s = kept_session c.args.new.now.session in
    let F = session_at c.args.self.now.chain in
    held-some (F c.in-Some.ticket) s
    (subst (λ (o : Option ℕ). IsTicketOf s F o) c.in-Some.is (c.find_new.ensures c.requires.sound.chain))

pub returns-in-Some-clause-sessions : goal.returns-in-Some-clause-sessions
returns-in-Some-clause-sessions g c =
    let s = kept_session c.args.new.now.session in
    let F = session_at c.args.self.now.chain in
    closed-goes (open_at c.args.self.now) (open_at c.take.new.self) c.in-Some.ticket c.take.ensures.sessions
    (closed c.args.self.now c.requires.sound s c.requires.absent c.in-Some.ticket
    (subst (λ (o : Option ℕ). IsTicketOf s F o) c.in-Some.is (c.find_new.ensures c.requires.sound.chain)))

pub returns-in-Some-clause-absent : goal.returns-in-Some-clause-absent
returns-in-Some-clause-absent g c =
    let s = kept_session c.args.new.now.session in
    let F = session_at c.args.self.now.chain in
    absent-now c.args.self.now c.requires.sound (session_at c.take.new.self.chain) s c.in-Some.ticket
    (subst (λ (o : Option ℕ). IsTicketOf s F o) c.in-Some.is (c.find_new.ensures c.requires.sound.chain))
    c.take.ensures.rows

pub returns-in-Some-clause-count : goal.returns-in-Some-clause-count
returns-in-Some-clause-count g c = omega (arith, c.take.ensures.count)

pub returns-in_default-clause-absent : goal.returns-in_default-clause-absent
returns-in_default-clause-absent g c =
    subst (λ (o : Option ℕ). IsTicketOf (kept_session c.args.new.now.session) (session_at c.args.self.now.chain) o)
    c.in_default.is (c.find_new.ensures c.requires.sound.chain)

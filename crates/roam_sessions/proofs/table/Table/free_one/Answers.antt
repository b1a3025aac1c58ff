use Rattle.std.proofs.Common.{◌≡◌, ◌<◌, List, length, None, Some, Option, ℕ, ap, subst, inl, inr, arith}
use Rattle.roam_sessions.specs.Ended.{IsTable, ended_asked, open_at, open_sessions}
use Rattle.roam_sessions.specs.Kept.{shown_asked}
use Rattle.roam_sessions.specs.Private.Tickets.{IsOneOf, NoneBefore}
use Rattle.roam_sessions.specs.Sessions.{Asked, Session, agrees}
use Rattle.roam_sessions.specs.Stands.{session_at, sessions_of}
use Rattle.roam_sessions.specs.declared.table.Table.{Table}
use Rattle.roam_sessions.proofs.NeighbourLemmas.{held-some}
use Rattle.roam_sessions.proofs.PairLemmas.{closed-goes, goes-was}
use Rattle.roam_sessions.proofs.MarkLemmas.{freed-none, freed-one}
use Rattle.roam_sessions.proofs.table.Table.free_one.Goals as goal

-- where sessions were ended that aren't freed yet, not all are open
some-closed : {A : Type 0} (c : Table A) → IsTable c → 0 < c.left → open_sessions c ≡ sessions_of c.chain → ⊥
some-closed c sound some all =
    omega (arith, sound.left, sound.chain.count, some, ap (λ (l : List Session). length l) all)

-- what is freed was ended
closed : {A : Type 0} (c : Table A) → IsTable c → 0 < c.left → (q : Asked) → q ≡ ended_asked c.ended → (o : Option ℕ)
    → IsOneOf (agrees q) (session_at c.chain) o → NoneBefore (agrees q) (session_at c.chain) o → (t : ℕ) → o ≡ Some t
    → open_at c t ≡ None
closed c sound some q is o one first t at =
    elim (freed-one c.ended (session_at c.chain) q is t
    (subst (λ (w : Option ℕ). IsOneOf (agrees q) (session_at c.chain) w) at one)
    (subst (λ (w : Option ℕ). NoneBefore (agrees q) (session_at c.chain) w) at first)) [
      | inl all ↦ absurd (some-closed c sound some all)
      | inr gone ↦ gone
    ]

pub take-requires-clause-held : goal.take-requires-clause-held
take-requires-clause-held g c =
    let F = session_at c.args.self.now.chain in
    let q = shown_asked c.asked.result in
    let one = subst (λ (o : Option ℕ). IsOneOf (agrees q) F o) c.in-Some.is
    (c.oldest.ensures.agrees c.requires.chain (ap (λ (x : Asked). x.id) c.asked.ensures)) in
    held-some (F c.in-Some.ticket) one.0 one.1

pub returns-in-Some-clause-sessions : goal.returns-in-Some-clause-sessions
returns-in-Some-clause-sessions g c =
    let none = ap (λ (x : Asked). x.id) c.asked.ensures in
    closed-goes (open_at c.args.self.now) (open_at c.take.new.self) c.in-Some.ticket c.take.ensures.sessions
    (closed c.args.self.now c.requires (omega (arith, c.if-self-eq0.false)) (shown_asked c.asked.result)
    c.asked.ensures c.oldest.result (c.oldest.ensures.agrees c.requires.chain none)
    (c.oldest.ensures.first c.requires.chain none) c.in-Some.ticket c.in-Some.is)

pub returns-in-Some-clause-left : goal.returns-in-Some-clause-left
returns-in-Some-clause-left g c =
    let none = ap (λ (x : Asked). x.id) c.asked.ensures in
    omega (
      arith,
      c.take.ensures.ended
          (closed c.args.self.now c.requires (omega (arith, c.if-self-eq0.false)) (shown_asked c.asked.result)
          c.asked.ensures c.oldest.result (c.oldest.ensures.agrees c.requires.chain none)
          (c.oldest.ensures.first c.requires.chain none) c.in-Some.ticket c.in-Some.is),
    )

pub returns-in-Some-clause-rows : goal.returns-in-Some-clause-rows
returns-in-Some-clause-rows g c = λ t s at.
    goes-was (session_at c.args.self.now.chain) (session_at c.take.new.self.chain) c.in-Some.ticket t s
    c.take.ensures.rows at

pub returns-in-Some-clause-count : goal.returns-in-Some-clause-count
returns-in-Some-clause-count g c = omega (arith, c.take.ensures.count)

pub returns-in_default-clause-left : goal.returns-in_default-clause-left
returns-in_default-clause-left g c =
    let old = c.args.self.now in
    let F = session_at old.chain in
    let q = shown_asked c.asked.result in
    let none = subst (λ (o : Option ℕ). IsOneOf (agrees q) F o) c.in_default.is
    (c.oldest.ensures.agrees c.requires.chain (ap (λ (x : Asked). x.id) c.asked.ensures)) in
    absurd
    (some-closed old c.requires (omega (arith, c.if-self-eq0.false)) (freed-none old.ended F q c.asked.ensures none))

use Rattle.std.proofs.Common.{◌≡◌, ℕ, ◌-◌, ◌<◌, List, Option, None, length, drop, refl, ap, ◌∙◌, subst, arith, length-drop}
use Rattle.std.specs.Prelude.{IfNone, IfSome, IsSome}
use Rattle.roam_wire.specs.Numbered.{listed, tickets_end}
use Rattle.roam_sessions.specs.Sessions.{Session}
use Rattle.roam_sessions.specs.Stands.{session_at, sessions_of}
use Rattle.roam_sessions.proofs.NewestLemmas.{newest-left}
use Rattle.roam_sessions.proofs.chain.Chain.keep_newest.Goals as goal

pub loop-place-init : goal.loop-place-init
loop-place-init g c = record { sound = c.requires; spare = refl; later = λ t le. refl }

pub remove-requires-clause-held : goal.remove-requires-clause-held
remove-requires-clause-held g c =
    subst (λ (o : Option (ℕ × ℕ)). IfSome o (λ x. IsSome (session_at c.loop-place.self x.1))) c.in-Some.is
    c.one_before.ensures.there

pub loop-place-preserved : goal.loop-place-preserved
loop-place-preserved g c =
    let old = c.loop-place.invariant in
    let below : c.in-Some.ticket < c.ticket_after-end.result =
    subst (λ (o : Option (ℕ × ℕ)). IfSome o (λ x. x.1 < c.ticket_after-end.result)) c.in-Some.is
    c.one_before.ensures.below in
    record {
      sound = c.remove.ensures.sound;
      spare = c.remove.ensures.room ∙ old.spare;
      later = λ t le. c.remove.ensures.sessions.others t (λ is. absurd (omega (arith, is, below, le))) ∙ old.later t le;
    }

pub loop-place-smaller : goal.loop-place-smaller
loop-place-smaller g c = omega (arith, c.remove.ensures.count)

-- the others are left
left : (g : _) (c : goal.In_default g)
    → sessions_of c.loop-place.self
    ≡ drop (length (sessions_of c.args.self.now) - c.args.limit) (sessions_of c.args.self.now)
left g c =
    let F = session_at c.args.self.now in
    let none = subst (λ (o : Option (ℕ × ℕ)). IfNone o
    ((t : ℕ) → t < c.ticket_after-end.result → session_at c.loop-place.self t ≡ None)) c.in_default.is
    c.one_before.ensures.none in
    let over : length (listed F 0 c.ticket_after-end.result)
    ≡ length (sessions_of c.args.self.now) - c.args.limit =
    omega (arith, c.ticket_after-end.ensures.count, c.len-count.ensures, c.requires.count) in
    newest-left F (session_at c.loop-place.self) c.ticket_after-end.result tickets_end
    (omega (arith, c.ticket_after-end.ensures.given, c.requires.tickets.within)) none c.loop-place.invariant.later
    ∙ ap (λ (n : ℕ). drop n (sessions_of c.args.self.now)) over

pub returns-clause-sessions : goal.returns-clause-sessions
returns-clause-sessions g c = left g c

pub returns-clause-count : goal.returns-clause-count
returns-clause-count g c =
    let all = sessions_of c.args.self.now in
    omega (
      arith,
      c.loop-place.invariant.sound.count,
      ap (λ (l : List Session). length l) (left g c),
      length-drop (length all - c.args.limit) all,
      c.len-count.ensures,
      c.requires.count,
      c.if-count-limit.false,
    )

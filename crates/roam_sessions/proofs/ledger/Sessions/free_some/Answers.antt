use Rattle.std.proofs.Common.{◌≡◌, ap, ◌∙◌, arith}
use Rattle.roam_sessions.specs.ShownSessions.{Ledger}
use Rattle.roam_sessions.proofs.ledger.Sessions.free_some.Goals as goal

pub invariant_of-self : goal.invariant_of-self
invariant_of-self g c = (
  c.free_some.ensures.sound,
  let count = rw c.deref_mut.ensures.value at c.free_some.ensures.count in omega (arith, count, c.self.invariant.1),
)

-- a ledger is its limit, its sessions and its room
ledger-is : (a b : Ledger) → a.limit ≡ b.limit → a.sessions ≡ b.sessions → a.spare ≡ b.spare → a ≡ b
ledger-is a b limit sessions spare = λ j. record { limit = limit j; sessions = sessions j; spare = spare j }

pub returns : goal.returns
returns g c =
    ledger-is _ c.args.self.now (ap (λ (l : Ledger). l.limit) c.self.view_is)
    ((rw c.deref_mut.ensures.value at c.free_some.ensures.sessions) ∙ ap (λ (l : Ledger). l.sessions) c.self.view_is)
    ((rw c.deref_mut.ensures.value at c.free_some.ensures.room) ∙ ap (λ (l : Ledger). l.spare) c.self.view_is)

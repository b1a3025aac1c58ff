use Rattle.std.proofs.Common.{◌≡◌, ℕ, true, Option, Some, None, sym, subst}
use Rattle.std.specs.Prelude.{IfSome, option_map}
use Rattle.roam_sessions.specs.Parts.{shown_parts}
use Rattle.roam_sessions.specs.Private.Tickets.{all_listed}
use Rattle.roam_sessions.specs.Sessions.{Session, has_session}
use Rattle.roam_sessions.specs.ShownSessions.{Ledger}
use Rattle.roam_sessions.specs.Ended.{open_at}
use Rattle.roam_sessions.specs.Stands.{AreTickets}
use Rattle.roam_sessions.specs.declared.parts.SessionParts.{SessionParts}
use Rattle.roam_sessions.proofs.MarkLemmas.{table-tickets}
use Rattle.roam_sessions.proofs.SoundLemmas.{there}
use Rattle.roam_sessions.proofs.ledger.Sessions.parts_of.Goals as goal

is-there : (F : ℕ → Option Session) (next t : ℕ) → AreTickets F next → (o : Option SessionParts)
    → option_map shown_parts o ≡ F t → IfSome o (λ parts. has_session (shown_parts parts) (all_listed F) ≡ true)
is-there F next t are None is = tt
is-there F next t are (Some parts) is = sym (there F next are (shown_parts parts) (Some t) (sym is))

pub returns : goal.returns
returns g c =
    let table = c.self.inside.table.value in
    subst (λ (l : Ledger). IfSome c.parts_of.result (λ parts. has_session (shown_parts parts) l.sessions ≡ true))
    c.self.view_is
    (is-there (open_at table) table.chain.next c.args.ticket (table-tickets table c.self.invariant.0) c.parts_of.result
    (rw c.deref.ensures at c.parts_of.ensures))

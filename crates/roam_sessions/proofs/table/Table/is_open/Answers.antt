use Rattle.std.proofs.Common.{Bool, Option, sym, ap, ◌∙◌}
use Rattle.std.specs.Prelude.{is_some, not}
use Rattle.roam_sessions.specs.Kept.{shown_session}
use Rattle.roam_sessions.specs.Sessions.{Session}
use Rattle.roam_sessions.specs.Stands.{session_at}
use Rattle.roam_sessions.proofs.OpenLemmas.{none-open, open-is}
use Rattle.roam_sessions.proofs.table.Table.is_open.Goals as goal

pub returns-in-Some : goal.returns-in-Some
returns-in-Some g c =
    let s = shown_session c.in-Some.session in
    let F = session_at c.args.self.now.chain in
    let at = sym (rw c.in-Some.is at c.session.ensures) in
    ap (λ (b : Bool). not b) c.ends.ensures ∙ sym (open-is c.args.self.now.ended F c.args.ticket s at)

pub returns-in-None : goal.returns-in-None
returns-in-None g c =
    let at = sym (rw c.in-None.is at c.session.ensures) in
    sym (ap (λ (o : Option Session). is_some o)
    (none-open c.args.self.now.ended (session_at c.args.self.now.chain) c.args.ticket at))

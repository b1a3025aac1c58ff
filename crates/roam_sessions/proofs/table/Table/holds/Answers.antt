use Rattle.std.proofs.Common.{ℕ, Bool, None, Option, ap, ◌∙◌, subst}
use Rattle.std.specs.Prelude.{not}
use Rattle.roam_sessions.specs.Ended.{is_ended, open_of}
use Rattle.roam_sessions.specs.Kept.{kept_session}
use Rattle.roam_sessions.specs.Private.Tickets.{IsTicketOf}
use Rattle.roam_sessions.specs.Stands.{session_at}
use Rattle.roam_sessions.proofs.OpenLemmas.{holds-open, not-found, open-tickets}
use Rattle.roam_sessions.proofs.SoundLemmas.{there}
use Rattle.roam_sessions.proofs.table.Table.holds.Goals as goal

pub returns-in_default : goal.returns-in_default
returns-in_default g c = λ sound.
    let s = kept_session c.args.new.now.session in
    let F = session_at c.args.self.now.chain in
    let e = c.args.self.now.ended in
    there (open_of e F) c.args.self.now.chain.next (open-tickets e F c.args.self.now.chain.next sound.chain.tickets) s
    None (not-found e F s
    (subst (λ (o : Option ℕ). IsTicketOf s F o) c.in_default.is (c.find_new.ensures sound.chain)))

pub returns : goal.returns
returns g c = λ sound.
    let s = kept_session c.args.new.now.session in
    let F = session_at c.args.self.now.chain in
    let e = c.args.self.now.ended in
    let at = subst (λ (o : Option ℕ). IsTicketOf s F o) c.in-Some.is (c.find_new.ensures sound.chain) in
    ap (λ (b : Bool). not b) (c.ends.ensures ∙ ap (is_ended e c.in-Some.ticket) c.lend.ensures)
    ∙ holds-open e F c.args.self.now.chain.next sound.chain.tickets c.in-Some.ticket s at

use Rattle.std.proofs.Common.{ℕ, Option, refl, sym, ◌∙◌, subst, arith}
use Rattle.roam_sessions.specs.Ended.{open_at}
use Rattle.roam_sessions.specs.Kept.{shown_asked}
use Rattle.roam_sessions.specs.Private.Tickets.{IsOneOf}
use Rattle.roam_sessions.specs.Sessions.{agrees}
use Rattle.roam_sessions.specs.Stands.{session_at}
use Rattle.roam_sessions.proofs.NeighbourLemmas.{held-some}
use Rattle.roam_sessions.proofs.MarkLemmas.{open-rest, rest-stays}
use Rattle.roam_sessions.proofs.WholeLemmas.{none-rest}
use Rattle.roam_sessions.proofs.table.Table.take_agreeing.Goals as goal

pub loop-ticket-init : goal.loop-ticket-init
loop-ticket-init g c = record {
  sound = c.requires.sound;
  spare = refl;
  count = omega arith;
  asked = refl;
  rest = refl;
}

pub loop-ticket-preserved : goal.loop-ticket-preserved
loop-ticket-preserved g c =
    let old = c.loop-ticket.invariant in
    let F = session_at c.loop-ticket.self.chain in
    let q = shown_asked c.args.asked in
    let one = subst (λ (o : Option ℕ). IsOneOf (agrees q) F o) c.in-Some.is
    (c.oldest.ensures.agrees old.sound.chain c.requires.no_id) in
    record {
      sound = c.take.ensures.sound;
      spare = c.take.ensures.room ∙ old.spare;
      count = omega (arith, c.take.ensures.count, old.count);
      asked = old.asked;
      rest = open-rest q c.loop-ticket.self.ended F c.in-Some.ticket one.0 one.1 one.2 (open_at c.take.new.self)
          c.take.ensures.sessions ∙ old.rest;
    }

pub take-requires-clause-held : goal.take-requires-clause-held
take-requires-clause-held g c =
    let old = c.loop-ticket.invariant in
    let F = session_at c.loop-ticket.self.chain in
    let q = shown_asked c.args.asked in
    let one = subst (λ (o : Option ℕ). IsOneOf (agrees q) F o) c.in-Some.is
    (c.oldest.ensures.agrees old.sound.chain c.requires.no_id) in
    held-some (F c.in-Some.ticket) one.0 one.1

pub returns-clause-sessions : goal.returns-clause-sessions
returns-clause-sessions g c =
    let old = c.loop-ticket.invariant in
    let F = session_at c.loop-ticket.self.chain in
    let q = shown_asked c.args.asked in
    let none = subst (λ (o : Option ℕ). IsOneOf (agrees q) F o) c.in_default.is
    (c.oldest.ensures.agrees old.sound.chain c.requires.no_id) in
    sym (none-rest q (open_at c.loop-ticket.self) (rest-stays q c.loop-ticket.self.ended F none)) ∙ old.rest

-- The line is of the request that waited.
use Rattle.std.proofs.Common.{Some, refl, ap, sym, ◌∙◌}
use Rattle.roam_log.proofs.ended_exchange.tell_of.Goals as goal

pub returns-clause-line : goal.returns-clause-line
returns-clause-line g c _ =
    let said = c.say.ensures.says in
    let once = c.say.ensures.once in record {
      octets = c.as_slice-octets.result.now;
      kept = c.in-Some.is ∙ ap Some (sym c.as_slice-octets.ensures);
      told = record {
        asked = said.asked;
        user_name = said.user_name;
        calling = said.calling;
        further = record {
          operator = said.further.operator;
          nas_id = said.further.nas_id;
          called = said.further.called;
          status = said.further.status;
          session = said.further.session;
          charged = refl;
        };
      };
      charged = c.keep_charged.ensures;
      cause = c.error_cause_of-exchange.ensures;
      outcome = c.say.ensures.outcome;
      why = once.0;
      realm = refl;
      peer = c.peer_of-exchange.ensures;
      server = c.server_of-exchange.ensures;
      tries = c.tries_of-exchange.ensures;
      times = once.1;
    }

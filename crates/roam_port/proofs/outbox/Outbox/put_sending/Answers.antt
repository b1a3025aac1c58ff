use Rattle.std.proofs.Common.{inl, inr, refl}
use Rattle.roam_port.proofs.PortFateLemmas.{puts_go_or_wait}
use Rattle.roam_port.proofs.outbox.Outbox.put_sending.Goals as goal

-- There was room.
pub returns-then-not-is_full_at-clause-puts : goal.returns-then-not-is_full_at-clause-puts
returns-then-not-is_full_at-clause-puts g c = record {
  between = c.args.self.now;
  sends = inr (refl, refl, c.none.ensures);
  puts = c.put.ensures.puts;
}

-- What waited was sent first.
pub returns-clause-puts : goal.returns-clause-puts
returns-clause-puts g c = record {
  between = c.send_all-sent.new.self;
  sends = inl c.send_all-sent.ensures.sends;
  puts = c.put-2.ensures.puts;
}

-- It waits, or is lost.
pub returns-then-not-is_full_at-clause-becomes : goal.returns-then-not-is_full_at-clause-becomes
returns-then-not-is_full_at-clause-becomes g c =
    puts_go_or_wait g.P.Port.hands _ _ _ _ _ _ (returns-then-not-is_full_at-clause-puts g c)

pub returns-clause-becomes : goal.returns-clause-becomes
returns-clause-becomes g c = puts_go_or_wait g.P.Port.hands _ _ _ _ _ _ (returns-clause-puts g c)

-- The fates of the packets that were put into an outbox, counted (ours).
use Rattle.std.specs.Prelude.{◌≡◌, ℕ, ◌+◌, ◌-◌, ◌<◌, ◌^◌, Result, Ok, Err}
use Rattle.roam_port.specs.Losses.{cause_of, counted, counted_if, losses_since, no_losses, one_more}
use Rattle.roam_port.specs.declared.account.Account.{Account}
use Rattle.roam_port.specs.declared.losses.LossCause.TheVariants as cause
use Rattle.roam_port.specs.declared.losses.Losses.{Losses}
use Rattle.roam_port.specs.declared.port.SendFault.{SendFault}
use Rattle.roam_port.specs.declared.port.SendFault.TheVariants as fault

abbrev pub none_put : Account
none_put = record { put = 0; sent = 0; losses = no_losses }

-- one more was put
abbrev pub after_put : Account → Account
after_put account = record account { put = one_more account.put }

-- one more was put, and is lost since its port's share is full
abbrev pub after_loss : Account → Account
after_loss account = record account { put = one_more account.put; losses = counted account.losses cause.FullRing }

-- a packet was handed to its port: it is sent, or waits on, or is lost by the port's fault
abbrev pub accounted : Account → Result (Unit {0}) SendFault → Account
accounted account (Ok done) = record account { sent = one_more account.sent }
accounted account (Err fault.WouldBlock) = account
accounted account (Err why) = record account { losses = counted_if account.losses (cause_of (Err why)) }

-- how many are lost
abbrev pub all_lost : Losses → ℕ
all_lost losses = losses.full_ring + losses.unreachable + losses.not_permitted + losses.other

-- ## Account of an outbox
-- How many packets were put, how many their ports took, and how many are lost by each cause. At any time what was put
-- is what is sent, what is lost and what waits, while fewer than 2^64 - 1 were put. Who asks is told what was counted
-- since it was asked last: that is what the metrics show.
-- Source: ours
-- Rules out: a packet that neither waits nor left nor is counted
-- Stands in: `roam_port` `Accounts.antt`: `IsBalanced`, `accounted`, `since`; `Losses.antt`; `Outbox`: `balanced`;
-- `Outbox::account`, `take_account`
--
-- each packet that was put is sent, is lost, or is one of so many that wait
abbrev pub IsBalanced : Account → ℕ → Type 0
IsBalanced account waiting = account.put < 2 ^ 64 - 1 → account.put ≡ account.sent + all_lost account.losses + waiting

-- what was counted since an earlier account
abbrev pub since : Account → Account → Account
since account earlier = record {
  put = account.put - earlier.put;
  sent = account.sent - earlier.sent;
  losses = losses_since account.losses earlier.losses;
}

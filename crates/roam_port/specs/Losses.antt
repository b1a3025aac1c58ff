-- Packets that are lost, counted by their cause (ours).
use Rattle.std.specs.Prelude.{ℕ, ◌+◌, ◌-◌, ◌^◌, min, Option, Some, None, Result, Ok, Err}
use Rattle.roam_port.specs.declared.port.SendFault.{SendFault}
use Rattle.roam_port.specs.declared.port.SendFault.TheVariants as fault
use Rattle.roam_port.specs.declared.losses.LossCause.{LossCause}
use Rattle.roam_port.specs.declared.losses.LossCause.TheVariants as cause
use Rattle.roam_port.specs.declared.losses.Losses.{Losses}

abbrev pub no_losses : Losses
no_losses = record { full_ring = 0; unreachable = 0; not_permitted = 0; other = 0 }

-- one more, up to 2^64 - 1
abbrev pub one_more : ℕ → ℕ
one_more count = min (2 ^ 64 - 1) (count + 1)

-- one more of this cause
abbrev pub counted : Losses → LossCause → Losses
counted losses cause.FullRing = record losses { full_ring = one_more losses.full_ring }
counted losses cause.Unreachable = record losses { unreachable = one_more losses.unreachable }
counted losses cause.NotPermitted = record losses { not_permitted = one_more losses.not_permitted }
counted losses cause.Other = record losses { other = one_more losses.other }

-- as many more as this cause says, if there is one
abbrev pub counted_if : Losses → Option LossCause → Losses
counted_if losses None = losses
counted_if losses (Some cause) = counted losses cause

-- the cause for which a packet is lost, by what its port answered: none where it went out, or waits until its socket
-- has room
abbrev pub cause_of : Result (Unit {0}) SendFault → Option LossCause
cause_of (Ok done) = None
cause_of (Err fault.WouldBlock) = None
cause_of (Err fault.Unreachable) = Some cause.Unreachable
cause_of (Err fault.NotPermitted) = Some cause.NotPermitted
cause_of (Err fault.Other) = Some cause.Other

-- what was counted since
abbrev pub losses_since : Losses → Losses → Losses
losses_since losses earlier = record {
  full_ring = losses.full_ring - earlier.full_ring;
  unreachable = losses.unreachable - earlier.unreachable;
  not_permitted = losses.not_permitted - earlier.not_permitted;
  other = losses.other - earlier.other;
}

-- The time when a home server may be dialed again (ours).
use Rattle.std.specs.Prelude.{ℕ, ◌*◌, ◌-◌, ◌≤◌, min, Bool, if◌then◌else◌, Option, Some, None}
use Rattle.roam_streams.specs.declared.redial.Redial.{Redial}

-- it wasn't dialed yet, or its delay went by since
abbrev pub WentBy : Option ℕ → ℕ → ℕ → Type 0
WentBy None delay now = Unit {0}
WentBy (Some moment) delay now = delay ≤ now - moment

abbrev pub MayDial : Redial → ℕ → Type 0
MayDial redial now = WentBy redial.dialed_at redial.delay now

-- the delay after a connection on which a packet came, or none
abbrev pub delay_after : Bool → ℕ → ℕ
delay_after packet_came delay = if packet_came then 500 else min (2 * delay) 8000

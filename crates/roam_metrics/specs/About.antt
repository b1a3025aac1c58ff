-- Moments of a server, which are milliseconds since its start. Ours.
use Rattle.std.specs.Prelude.{ℕ, ◌+◌, ◌-◌, ◌/◌, ◌^◌, min, Option, Some, None}

-- a moment in seconds since 1970, where it is known when the server started
abbrev pub second_at : Option ℕ → ℕ → Option ℕ
second_at (Some began) moment = Some (min (2 ^ 64 - 1) (began + moment / 1000))
second_at None moment = None

-- how many whole seconds lie between a moment and now
abbrev pub seconds_since : ℕ → ℕ → ℕ
seconds_since now moment = (now - moment) / 1000

-- The time that home servers take to answer. Ours.
use Rattle.std.specs.Prelude.{ℕ, nat_le, if◌then◌else◌}
use Rattle.roam_counters.specs.declared.delay.Delay.{Delay}
use Rattle.roam_counters.specs.declared.delay.Delay.TheVariants as delay

-- the least of the bounds, in milliseconds, that a time keeps
abbrev pub beyond_300 : ℕ → Delay
beyond_300 time =
    if nat_le time 1000 then delay.Within1000
    else if nat_le time 3000 then delay.Within3000
    else if nat_le time 10000 then delay.Within10000
    else delay.Longer

-- ## Time of an answer
-- The least of the bounds 10, 30, 100, 300, 1,000, 3,000 and 10,000 milliseconds that it keeps, or none of
-- them.
-- Source: ours
-- Rules out: a time counted between two bounds
-- Stands in: `roam_counters` `Delays.antt`: `delay_of`; `Delay::of`
--
abbrev pub delay_of : ℕ → Delay
delay_of time =
    if nat_le time 10 then delay.Within10
    else if nat_le time 30 then delay.Within30
    else if nat_le time 100 then delay.Within100
    else if nat_le time 300 then delay.Within300
    else beyond_300 time

-- their places, from 0
abbrev pub delay_place : Delay → ℕ
delay_place delay.Within10 = 0
delay_place delay.Within30 = 1
delay_place delay.Within100 = 2
delay_place delay.Within300 = 3
delay_place delay.Within1000 = 4
delay_place delay.Within3000 = 5
delay_place delay.Within10000 = 6
delay_place delay.Longer = 7

-- The counts of the whole server. Ours.
use Rattle.std.specs.Prelude.{ℕ}
use Rattle.roam_conf.specs.declared.place.Place.{Place}
use Rattle.roam_conf.specs.declared.place.Place.TheVariants as place
use Rattle.roam_counters.specs.declared.datagrams.Handling.{Handling}
use Rattle.roam_counters.specs.declared.datagrams.Handling.TheVariants as handling
use Rattle.roam_counters.specs.declared.process.Process.{Process}
use Rattle.roam_counters.specs.declared.process.Process.TheVariants as process

-- that a datagram came to this place
abbrev pub received : Place → Process
received (place.Auth nth) = process.ReceivedAuth
received (place.Acct nth) = process.ReceivedAcct
received (place.Out realm nth) = process.ReceivedOut
received (place.Reverse realm nth) = process.ReceivedReverse

-- that this became of a datagram
abbrev pub handled_as : Handling → Process
handled_as handling.Taken = process.DatagramTaken
handled_as handling.Answered = process.DatagramAnswered
handled_as handling.Refused = process.DatagramRefused
handled_as handling.Failed = process.DatagramFailed
handled_as handling.Dropped = process.DatagramDropped

-- its place among these counts, from 0
abbrev pub process_place : Process → ℕ
process_place process.ReceivedAuth = 0
process_place process.ReceivedAcct = 1
process_place process.ReceivedOut = 2
process_place process.ReceivedReverse = 3
process_place process.Sent = 4
process_place process.LostFullRing = 5
process_place process.LostUnreachable = 6
process_place process.LostNotPermitted = 7
process_place process.LostOther = 8
process_place process.Step = 9
process_place process.StepLetGo = 10
process_place process.TimeLetGo = 11
process_place process.LineDropped = 12
process_place process.NoteMissed = 13
process_place process.DatagramTaken = 14
process_place process.DatagramAnswered = 15
process_place process.DatagramRefused = 16
process_place process.DatagramFailed = 17
process_place process.DatagramDropped = 18

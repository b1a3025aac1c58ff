-- The fates of the datagrams that were received, counted. Ours.
use Rattle.std.specs.Prelude.{◌≡◌, ℕ, ◌+◌, ◌-◌, ◌<◌, ◌^◌, min, List, [], ◌∷◌}
use Rattle.roam_counters.specs.declared.datagrams.DatagramCounts.{DatagramCounts}
use Rattle.roam_counters.specs.declared.datagrams.Handling.{Handling}
use Rattle.roam_counters.specs.declared.datagrams.Handling.TheVariants as handling

abbrev pub none_received : DatagramCounts
none_received = record { received = 0; taken = 0; answered = 0; refused = 0; failed = 0; dropped = 0 }

-- one more, up to 2^64 - 1
abbrev pub one_more : ℕ → ℕ
one_more count = min (2 ^ 64 - 1) (count + 1)

-- one more was received, and this became of it
abbrev pub handled : DatagramCounts → Handling → DatagramCounts
handled d handling.Taken = record d { received = one_more d.received; taken = one_more d.taken }
handled d handling.Answered = record d { received = one_more d.received; answered = one_more d.answered }
handled d handling.Refused = record d { received = one_more d.received; refused = one_more d.refused }
handled d handling.Failed = record d { received = one_more d.received; failed = one_more d.failed }
handled d handling.Dropped = record d { received = one_more d.received; dropped = one_more d.dropped }

-- so many together, up to 2^64 - 1
abbrev pub up_to_end : ℕ → ℕ → ℕ
up_to_end a b = min (2 ^ 64 - 1) (a + b)

abbrev pub both : DatagramCounts → DatagramCounts → DatagramCounts
both a b = record {
  received = up_to_end a.received b.received;
  taken = up_to_end a.taken b.taken;
  answered = up_to_end a.answered b.answered;
  refused = up_to_end a.refused b.refused;
  failed = up_to_end a.failed b.failed;
  dropped = up_to_end a.dropped b.dropped;
}

-- those of several beside these
abbrev pub with_all : DatagramCounts → List DatagramCounts → DatagramCounts
with_all so_far [] = so_far
with_all so_far (d ∷ ds) = with_all (both so_far d) ds

abbrev pub all_of : List DatagramCounts → DatagramCounts
all_of ds = with_all none_received ds

-- ## Account of datagrams
-- How many were received, and what became of each: a realm's rules took it, the broker answered by itself, it was
-- refused before it came to a realm, the call for it failed, or it was a request that came while the server stops. What
-- was received is these five together, while it was fewer than 2^64 - 1.
-- Source: ours
-- Rules out: a datagram that is received and nowhere else
-- Stands in: `roam_counters` `Datagrams.antt`: `IsBalanced`, `handled`, `both`; `Datagrams`: `balanced`;
-- `Datagrams::after`, `and`
--
abbrev pub IsBalanced : DatagramCounts → Type 0
IsBalanced d = d.received < 2 ^ 64 - 1 → d.received ≡ d.taken + d.answered + d.refused + d.failed + d.dropped

-- The counts of a caller's calls (ours).
use Rattle.std.specs.Prelude.{ℕ, ◌+◌, ◌-◌, ◌^◌, ◌==◌, ◌||◌, min, nat_lt, false, List, [], replicate, slice_index_or, slice_set}
use Rattle.roam_history.specs.Entries.{HistoryEntry}
use Rattle.roam_history.specs.declared.tally.Tally.{Tally}

-- a seat, by shard: what it counts of its calls, how often it let go of the stored steps, and what it has seen of the
-- one history
pub record SeatView : Type 0 where
  pub tallies : List Tally
  pub times : List ℕ
  pub fronts : List (List HistoryEntry)

-- nothing is counted
abbrev pub no_calls : Tally
no_calls = record { calls = 0; next = 0; is_marked = false }

-- no call is counted, for so many shards
abbrev pub no_tallies : ℕ → List Tally
no_tallies shards = replicate shards no_calls

-- nothing was let go of, for so many shards
abbrev pub no_times : ℕ → List ℕ
no_times shards = replicate shards 0

-- a seat that counted no call, let go of nothing and has seen nothing, for so many shards
abbrev pub new_seat : ℕ → SeatView
new_seat shards =
    record { tallies = no_tallies shards; times = no_times shards; fronts = replicate shards [] }

-- what is counted of a shard
abbrev pub tally_of : List Tally → ℕ → Tally
tally_of tallies shard = slice_index_or tallies shard no_calls

-- how often a shard's stored steps were let go of
abbrev pub times_of : List ℕ → ℕ → ℕ
times_of times shard = slice_index_or times shard 0

-- what a seat has seen of a shard's history
abbrev pub front_of : SeatView → ℕ → List HistoryEntry
front_of seat shard = slice_index_or seat.fronts shard []

-- ## Seat
-- For each shard, what one caller counts: how many calls, the number after the last one's, and a mark where a
-- number was below that or the count could rise no further; how often it let go of the stored steps; and what it has
-- seen of the shard's history.
-- Source: ours
-- Rules out: two calls counted as one; numbers that fall unseen; a call that lets go of steps beside
-- Stands in: `roam_history` `Seats.antt`: `tally_after`, `noted`, `once_more`, `new_seat`, `front_of`; `Seat::note`,
-- `note_let_go`, `split`; the calls of `Hub`
--
-- a call was recorded under a number. It is counted, as far as 64 bits go. The number should be at
-- least the one after the last: where it is below, or the count stood at its end, that is marked
abbrev pub tally_after : Tally → ℕ → Tally
tally_after old number = record {
  calls = min (old.calls + 1) (2 ^ 64 - 1);
  next = number + 1;
  is_marked = old.is_marked || old.calls == 2 ^ 64 - 1 || nat_lt number old.next;
}

-- the tallies after a call that was recorded under a number of a shard: other shards' stay
abbrev pub noted : List Tally → ℕ → ℕ → List Tally
noted tallies shard number =
    slice_set tallies shard (tally_after (tally_of tallies shard) number)

-- a seat that has seen these entries of a shard: all else stays
abbrev pub having_seen : SeatView → ℕ → List HistoryEntry → SeatView
having_seen seat shard entries =
    record { tallies = seat.tallies; times = seat.times; fronts = slice_set seat.fronts shard entries }

-- a seat after a call that was recorded under a number of a shard, and of whose history it has then seen
-- these entries
abbrev pub after_call : SeatView → ℕ → ℕ → List HistoryEntry → SeatView
after_call seat shard number entries =
    record {
      tallies = noted seat.tallies shard number;
      times = seat.times;
      fronts = slice_set seat.fronts shard entries;
    }

-- once more, as far as 64 bits go: other shards' stay
abbrev pub once_more : List ℕ → ℕ → List ℕ
once_more times shard = slice_set times shard (min (times_of times shard + 1) (2 ^ 64 - 1))

-- a seat after it let go of a shard's stored steps, of whose history it has then seen these entries
abbrev pub after_letting_go : SeatView → ℕ → List HistoryEntry → SeatView
after_letting_go seat shard entries =
    record {
      tallies = seat.tallies;
      times = once_more seat.times shard;
      fronts = slice_set seat.fronts shard entries;
    }

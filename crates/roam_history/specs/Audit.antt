-- The questions of an audit (ours): whether what was recorded, shard by shard, is what the callers have. All steps
-- count, those that were let go of too.
use Rattle.std.specs.Prelude.{◌≡◌, ℕ, ◌+◌, ◌<◌, ◌==◌, ◌&&◌, Bool, List, [], length, take, sum_by, Some, slice_get, slice_index_or, false}
use Rattle.std.specs.List.{All, AllPairs}
use Rattle.roam_shard.specs.Steps.{PlainStep}
use Rattle.roam_history.specs.Entries.{HistoryEntry, times_let_go}
use Rattle.roam_history.specs.declared.audit_fault.AuditFault.{AuditFault}
use Rattle.roam_history.specs.declared.audit_fault.AuditFault.TheVariants as fault
use Rattle.roam_history.specs.Seats.{SeatView, front_of, tally_of, times_of}
use Rattle.roam_history.specs.Receipts.{PlainReceipt}

-- the steps of a shard: none of a shard that isn't there
abbrev pub steps_of : List (List PlainStep) → ℕ → List PlainStep
steps_of steps shard = slice_index_or steps shard []

-- how many calls of a shard the seats counted together
abbrev pub calls_of : List SeatView → ℕ → ℕ
calls_of seats shard = sum_by (λ seat. (tally_of seat.tallies shard).calls) seats

-- how often the seats let go of a shard's stored steps together
abbrev pub times_of_all : List SeatView → ℕ → ℕ
times_of_all seats shard = sum_by (λ seat. times_of seat.times shard) seats

-- the seats agree with a shard: they counted as many calls as it has steps, and let go of the stored ones as often as
-- its whole history says; and none is marked there
pub record Agrees (steps : List (List PlainStep)) (whole : ℕ → List HistoryEntry) (seats : List SeatView) (shard : ℕ)
    : Type 0 where
  pub calls : calls_of seats shard ≡ length (steps_of steps shard)
  pub times : times_of_all seats shard ≡ times_let_go (whole shard)
  pub unmarked : All (λ seat. (tally_of seat.tallies shard).is_marked ≡ false) seats

-- the seats agree with every shard
abbrev pub AllAgree : List (List PlainStep) → (ℕ → List HistoryEntry) → List SeatView → Type 0
AllAgree steps whole seats = (shard : ℕ) → shard < length steps → Agrees steps whole seats shard

-- a receipt stands in the steps: its shard has its step at its number
abbrev pub Stands : List (List PlainStep) → PlainReceipt → Type 0
Stands steps receipt = slice_get (steps_of steps receipt.shard) receipt.number ≡ Some receipt.step

-- whether two receipts are of one call: they have one number of one shard
abbrev pub are_of_one_call : PlainReceipt → PlainReceipt → Bool
are_of_one_call one other = one.shard == other.shard && one.number == other.number

-- receipts are right: each stands in the steps, and no two are of one call
pub record AreRight (steps : List (List PlainStep)) (receipts : List PlainReceipt) : Type 0 where
  pub stand : All (Stands steps) receipts
  pub apart : AllPairs (λ one other. are_of_one_call one other ≡ false) receipts

-- ## Audit
-- All is in order where for each shard the seats together counted as many calls as it has steps, and let go of its
-- stored steps as often as its history says, and none is marked there; and where each receipt stands in the steps, and
-- no two are of one call. Else the least shard with which the seats don't agree is at fault; or, where they agree with
-- all, the first receipt that isn't right beside those before it.
-- Source: ours
-- Rules out: a step that nobody called for; a call whose step is missing; steps that nobody let go of and are gone; a
-- later fault reported for an earlier one
-- Stands in: `roam_history` `Audit.antt`: `IsInOrder`, `Agrees`, `IsFirstUneven`, `IsFirstWrong`, `AreOfFirstWrong`;
-- `Report::audit`
--
-- all is as it must be
pub record IsInOrder (steps : List (List PlainStep)) (whole : ℕ → List HistoryEntry) (seats : List SeatView)
    (receipts : List PlainReceipt) : Type 0 where
  pub agree : AllAgree steps whole seats
  pub right : AreRight steps receipts

-- the least shard with which the seats don't agree
pub record IsFirstUneven (steps : List (List PlainStep)) (whole : ℕ → List HistoryEntry) (seats : List SeatView)
    (shard : ℕ) : Type 0 where
  pub there : shard < length steps
  pub before : (lower : ℕ) → lower < shard → Agrees steps whole seats lower
  pub against : ¬ Agrees steps whole seats shard

-- the first receipt that isn't right: those before it are, and with it they aren't. So of two
-- receipts of one call it is the later
pub record IsFirstWrong (steps : List (List PlainStep)) (receipts : List PlainReceipt)
    (receipt : PlainReceipt) : Type 0 where
  pub place : ℕ
  pub there : slice_get receipts place ≡ Some receipt
  pub before : AreRight steps (take place receipts)
  pub against : ¬ AreRight steps (take (place + 1) receipts)

-- the shard and the number of the first receipt that isn't right, where the seats agree with every
-- shard
pub record AreOfFirstWrong (steps : List (List PlainStep)) (whole : ℕ → List HistoryEntry) (seats : List SeatView)
    (receipts : List PlainReceipt) (shard number : ℕ) : Type 0 where
  pub agree : AllAgree steps whole seats
  pub receipt : PlainReceipt
  pub first : IsFirstWrong steps receipts receipt
  pub its_shard : receipt.shard ≡ shard
  pub its_number : receipt.number ≡ number

-- what was seen of a history begins the whole
abbrev pub Begins : List HistoryEntry → List HistoryEntry → Type 0
Begins seen whole = take (length seen) whole ≡ seen

-- all that a seat has seen of each of so many shards begins that shard's whole history
abbrev pub HasSeen : ℕ → (ℕ → List HistoryEntry) → SeatView → Type 0
HasSeen shards whole seat = (shard : ℕ) → shard < shards → Begins (front_of seat shard) (whole shard)

-- ## Audited report
-- One whose seats together counted just as many calls of each shard as it has steps there, none of them marked, let go
-- of the stored ones just as often as its history says, and have seen beginnings of its histories.
-- Source: ours
-- Rules out: an end that nobody audited; a call that silently lets go of what was stored
-- Stands in: `roam_history` `Audit.antt`: `IsPassed`, `IsFirstFault`; the invariants of `Audited`;
-- `Report::audited`
--
-- the seats agree with every shard, and what each has seen begins the histories
pub record IsPassed (steps : List (List PlainStep)) (shards : ℕ) (whole : ℕ → List HistoryEntry)
    (seats : List SeatView) : Type 0 where
  pub agree : AllAgree steps whole seats
  pub begun : All (HasSeen shards whole) seats

-- the first fault of an audit by the seats alone: the least shard with which they don't agree
abbrev pub IsFirstFault : List (List PlainStep) → (ℕ → List HistoryEntry) → List SeatView → AuditFault → Type 0
IsFirstFault steps whole seats (fault.Seats shard) = IsFirstUneven steps whole seats shard
IsFirstFault steps whole seats (fault.Receipt shard number) = ⊥

-- The answers of the two halves of an audit: words of private functions alone (ours).
use Rattle.std.specs.Prelude.{◌≡◌, ℕ, false, List, Result, Ok, Err}
use Rattle.std.specs.List.{All}
use Rattle.roam_shard.specs.Steps.{PlainStep}
use Rattle.roam_history.specs.Entries.{HistoryEntry}
use Rattle.roam_history.specs.declared.audit_fault.AuditFault.{AuditFault}
use Rattle.roam_history.specs.declared.audit_fault.AuditFault.TheVariants as fault
use Rattle.roam_history.specs.Seats.{SeatView}
use Rattle.roam_history.specs.Receipts.{PlainReceipt}
use Rattle.roam_history.specs.Audit.{AllAgree, Stands, are_of_one_call, AreRight, IsInOrder, IsFirstUneven, IsFirstFault, IsFirstWrong, IsPassed, AreOfFirstWrong}

-- what is found of the seats
abbrev pub FindsUneven : List (List PlainStep) → (ℕ → List HistoryEntry) → List SeatView
    → Result (Unit {0}) AuditFault → Type 0
FindsUneven steps whole seats (Ok _) = AllAgree steps whole seats
FindsUneven steps whole seats (Err (fault.Seats shard)) = IsFirstUneven steps whole seats shard
FindsUneven steps whole seats (Err (fault.Receipt shard number)) = ⊥

-- what is found of the seats, all of which have seen beginnings of the histories
abbrev pub FindsPassed : List (List PlainStep) → ℕ → (ℕ → List HistoryEntry) → List SeatView
    → Result (Unit {0}) AuditFault → Type 0
FindsPassed steps shards whole seats (Ok _) = IsPassed steps shards whole seats
FindsPassed steps shards whole seats (Err what) = IsFirstFault steps whole seats what

-- the first receipt that isn't right has this shard and number
pub record IsWrongAt (steps : List (List PlainStep)) (receipts : List PlainReceipt)
    (shard number : ℕ) : Type 0 where
  pub receipt : PlainReceipt
  pub first : IsFirstWrong steps receipts receipt
  pub its_shard : receipt.shard ≡ shard
  pub its_number : receipt.number ≡ number

-- what is found of the receipts
abbrev pub FindsWrong : List (List PlainStep) → List PlainReceipt → Result (Unit {0}) AuditFault
    → Type 0
FindsWrong steps receipts (Ok _) = AreRight steps receipts
FindsWrong steps receipts (Err (fault.Seats shard)) = ⊥
FindsWrong steps receipts (Err (fault.Receipt shard number)) =
    IsWrongAt steps receipts shard number

-- a receipt is right after others: it stands in the steps, and none of them is of its call
pub record IsRightAfter (steps : List (List PlainStep)) (before : List PlainReceipt)
    (receipt : PlainReceipt) : Type 0 where
  pub stands : Stands steps receipt
  pub alone : All (λ earlier. are_of_one_call earlier receipt ≡ false) before

-- what the whole audit answers
abbrev pub Audits : List (List PlainStep) → (ℕ → List HistoryEntry) → List SeatView → List PlainReceipt
    → Result (Unit {0}) AuditFault → Type 0
Audits steps whole seats receipts (Ok _) = IsInOrder steps whole seats receipts
Audits steps whole seats receipts (Err (fault.Seats shard)) = IsFirstUneven steps whole seats shard
Audits steps whole seats receipts (Err (fault.Receipt shard number)) =
    AreOfFirstWrong steps whole seats receipts shard number

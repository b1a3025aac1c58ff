-- An audit finds one thing alone.
use Rattle.std.proofs.Common.{◌≡◌, ◌↔◌, ℕ, List, Result, Ok, Err, IsOk, sym, subst, ap, ◌∙◌, inl, inr, refl}
use Rattle.std.proofs.lemmas.Bool.{cases_order}
use Rattle.roam_shard.specs.Steps.{PlainStep}
use Rattle.roam_history.specs.declared.audit_fault.AuditFault.{AuditFault}
use Rattle.roam_history.specs.declared.audit_fault.AuditFault.TheVariants as fault
use Rattle.roam_history.specs.Seats.{SeatView}
use Rattle.roam_history.specs.Receipts.{PlainReceipt}
use Rattle.roam_history.specs.Entries.{HistoryEntry}
use Rattle.roam_history.specs.Audit.{AllAgree, IsFirstFault, IsInOrder, IsFirstUneven, IsPassed, AreOfFirstWrong}
use Rattle.roam_history.specs.Findings.{FindsUneven, FindsWrong, Audits}
use Rattle.roam_history.proofs.ReceiptLemmas.{one_wrong, none_wrong}

-- there is one least shard with which the seats don't agree
pub one_uneven : (steps : List (List PlainStep)) (whole : ℕ → List HistoryEntry) (seats : List SeatView)
    (shard other : ℕ)
    → IsFirstUneven steps whole seats shard
    → IsFirstUneven steps whole seats other
    → shard ≡ other
one_uneven steps whole seats shard other first also =
    elim (cases_order shard other) [
      | inl same ↦ same
      | inr (inl below) ↦ absurd (first.against (also.before shard below))
      | inr (inr above) ↦ absurd (also.against (first.before other above))
    ]

-- where they agree with every shard there is none
pub none_uneven : (steps : List (List PlainStep)) (whole : ℕ → List HistoryEntry) (seats : List SeatView) (shard : ℕ)
    → AllAgree steps whole seats
    → ¬ IsFirstUneven steps whole seats shard
none_uneven steps whole seats shard agree first = first.against (agree shard first.there)

-- what an audit answers says which of the three holds, and each of them what it answers
pub record Decides (steps : List (List PlainStep)) (whole : ℕ → List HistoryEntry) (seats : List SeatView)
    (receipts : List PlainReceipt) (result : Result (Unit {0}) AuditFault) : Type 0 where
  pub ok : IsOk result ↔ IsInOrder steps whole seats receipts
  pub uneven : (shard : ℕ) → (result ≡ Err (fault.Seats shard)) ↔ IsFirstUneven steps whole seats shard
  pub wrong : (shard number : ℕ)
      → (result ≡ Err (fault.Receipt shard number))
      ↔ AreOfFirstWrong steps whole seats receipts shard number

-- so it is decided
pub decided : (steps : List (List PlainStep)) (whole : ℕ → List HistoryEntry) (seats : List SeatView)
    (receipts : List PlainReceipt) (result : Result (Unit {0}) AuditFault)
    → Audits steps whole seats receipts result
    → Decides steps whole seats receipts result
decided steps whole seats receipts (Ok _) order = record {
  ok = (λ _. order, λ _. refl);
  uneven = λ shard.
      (λ yes. absurd (cc), λ first. absurd (none_uneven steps whole seats shard order.agree first));
  wrong = λ shard number. (
    λ no. absurd (cc),
    λ found. absurd (none_wrong steps receipts found.receipt order.right found.first),
  );
}
decided steps whole seats receipts (Err (fault.Seats least)) first = record {
  ok = (λ yes. absurd (cc), λ order. absurd (none_uneven steps whole seats least order.agree first));
  uneven = λ shard. (
    λ same. let shard_is : least ≡ shard = cc in subst (IsFirstUneven steps whole seats) shard_is first,
    λ also. ap (λ s. Err (fault.Seats s)) (one_uneven steps whole seats least shard first also),
  );
  wrong = λ shard number.
      (λ yes. absurd (cc), λ found. absurd (none_uneven steps whole seats least found.agree first));
}
decided steps whole seats receipts (Err (fault.Receipt its_shard its_number)) found = record {
  ok = (
    λ yes. absurd (cc),
    λ order. absurd (none_wrong steps receipts found.receipt order.right found.first),
  );
  uneven = λ shard.
      (λ yes. absurd (cc), λ first. absurd (none_uneven steps whole seats shard found.agree first));
  wrong = λ shard number. (
    λ same.
        let shard_is : its_shard ≡ shard = cc in
        let number_is : its_number ≡ number = cc in
        subst (λ s. AreOfFirstWrong steps whole seats receipts s number) shard_is
        (subst (AreOfFirstWrong steps whole seats receipts its_shard) number_is found),
    λ also.
        let one = one_wrong steps receipts found.receipt also.receipt found.first also.first in
        let shard_is : its_shard ≡ shard =
        sym found.its_shard ∙ ap (λ r. r.shard) one ∙ also.its_shard in
        let number_is : its_number ≡ number =
        sym found.its_number ∙ ap (λ r. r.number) one ∙ also.its_number in
        cc,
  );
}

-- a fault of the seats is the audit's
pub audits_seats : (steps : List (List PlainStep)) (whole : ℕ → List HistoryEntry) (seats : List SeatView)
    (receipts : List PlainReceipt) (what : AuditFault)
    → FindsUneven steps whole seats (Err what)
    → Audits steps whole seats receipts (Err what)
audits_seats steps whole seats receipts (fault.Seats shard) first = first
audits_seats steps whole seats receipts (fault.Receipt shard number) never = absurd never

-- where the seats agree with every shard, what is found of the receipts is the audit's
pub audits_receipts : (steps : List (List PlainStep)) (whole : ℕ → List HistoryEntry) (seats : List SeatView)
    (receipts : List PlainReceipt) (result : Result (Unit {0}) AuditFault)
    → AllAgree steps whole seats
    → FindsWrong steps receipts result
    → Audits steps whole seats receipts result
audits_receipts steps whole seats receipts (Ok _) agree right = record { agree = agree; right = right }
audits_receipts steps whole seats receipts (Err (fault.Seats shard)) agree never = absurd never
audits_receipts steps whole seats receipts (Err (fault.Receipt shard number)) agree found = record {
  agree = agree;
  receipt = found.receipt;
  first = found.first;
  its_shard = found.its_shard;
  its_number = found.its_number;
}

-- a fault of the seats is that of an audit by the seats alone
pub first_fault : (steps : List (List PlainStep)) (whole : ℕ → List HistoryEntry) (seats : List SeatView)
    (what : AuditFault)
    → FindsUneven steps whole seats (Err what)
    → IsFirstFault steps whole seats what
first_fault steps whole seats (fault.Seats shard) first = first
first_fault steps whole seats (fault.Receipt shard number) never = absurd never

-- where there is one they don't pass
pub not_passed : (steps : List (List PlainStep)) (shards : ℕ) (whole : ℕ →
    List HistoryEntry) (seats : List SeatView) (what : AuditFault)
    → IsFirstFault steps whole seats what
    → ¬ IsPassed steps shards whole seats
not_passed steps shards whole seats (fault.Seats shard) first passed =
    none_uneven steps whole seats shard passed.agree first
not_passed steps shards whole seats (fault.Receipt shard number) never passed = never

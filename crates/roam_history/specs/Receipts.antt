-- The receipt that a caller gets for a recorded call (ours).
use Rattle.std.specs.Prelude.{ℕ}
use Rattle.roam_shard.specs.Steps.{PlainStep}

-- ## Receipt
-- What a caller gets for a recorded call: shard, number, event and answer, and what was seen of the history, in
-- which this step stands at this number. Two receipts are of one call where shard and number are equal.
-- Source: ours
-- Rules out: a receipt for another shard's step
-- Stands in: `roam_history` `Receipts.antt`: `PlainReceipt`; the invariants of `Receipt`; `Audit.antt`: `Stands`,
-- `are_of_one_call`
--
-- a receipt: in which shard the call was recorded, after how many others, and as which step
pub record PlainReceipt : Type 0 where
  pub shard : ℕ
  pub number : ℕ
  pub step : PlainStep

use Rattle.roam_pending.specs.PlainEntry.{has_key, waits_at}
use Rattle.roam_pending.proofs.ChangeLemmas.{found-ticket, found-is, find-passes}
use Rattle.roam_pending.proofs.ClientLemmas.{key-equal, key-same, done-found}
use Rattle.roam_pending.proofs.laws.found_entries.Goals as goal

pub returns-clause-same_key : goal.returns-clause-same_key
returns-clause-same_key c = λ a b. (key-equal a b, key-same a b)

pub returns-clause-by_ticket : goal.returns-clause-by_ticket
returns-clause-by_ticket c = λ t e es at. found-ticket t es e at

pub returns-clause-by_key : goal.returns-clause-by_key
returns-clause-by_key c = λ k e es order at. (
  key-equal e.request.key k (find-passes (has_key k) es e at),
  found-is (has_key k) es e order at,
)

pub returns-clause-on_link : goal.returns-clause-on_link
returns-clause-on_link c = λ l i e es order at. (
  find-passes (waits_at l i) es e at,
  found-is (waits_at l i) es e order at,
)

pub returns-clause-done : goal.returns-clause-done
returns-clause-done c = λ t es order at. done-found es t order at

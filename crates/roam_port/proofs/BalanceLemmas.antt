-- What was put is sent, is lost or waits.
use Rattle.std.proofs.Common.{◌≡◌, ◌≢◌, ℕ, zero, suc, ◌+◌, List, [], ◌∷◌, ◌++◌, length, Some, None}
use Rattle.std.proofs.Common.{Result, Ok, Err, inl, inr, refl, ap, sym, ◌∙◌, subst, arith}
use Rattle.std.specs.Prelude.{slice_get}
use Rattle.std.specs.List.{AllByRecursion}
use Rattle.std.proofs.Math.ListN.{set}
use Rattle.roam_port.specs.Accounts.{IsBalanced, accounted, after_loss, after_put}
use Rattle.roam_port.specs.Port.{PortCall}
use Rattle.roam_port.specs.PortQueue.{Handed, account_after}
use Rattle.roam_port.specs.Queues.{AreMore, IsUnused, SendsAt, count_waiting}
use Rattle.roam_port.specs.declared.account.Account.{Account}
use Rattle.roam_port.specs.declared.port.SendFault.{SendFault}
use Rattle.roam_port.specs.declared.port.SendFault.TheVariants as fault
use Rattle.roam_port.specs.declared.port_queue.PortQueue.{PortQueue}
use Rattle.roam_port.specs.declared.sent.Sent.{Sent}
use Rattle.roam_port.proofs.ListedLemmas.{is_some}
use Rattle.roam_port.proofs.QueueLemmas.{all_left}

put_balanced : (a : Account) (w : ℕ) → IsBalanced a w → IsBalanced (after_put a) (w + 1)
put_balanced a w so_far below = let was = so_far (omega arith) in omega arith

loss_balanced : (a : Account) (w : ℕ) → IsBalanced a w → IsBalanced (after_loss a) w
loss_balanced a w so_far below = let was = so_far (omega arith) in omega arith

-- one more was put, and waits
pub put_kept : (old new : Account) (w w2 : ℕ) → new ≡ after_put old → w2 ≡ w + 1 → IsBalanced old w → IsBalanced new w2
put_kept old new w w2 is more so_far =
    subst (λ a. IsBalanced a w2) (sym is) (subst (IsBalanced (after_put old)) (sym more) (put_balanced old w so_far))

-- one more was put, and is lost
pub loss_kept : (old new : Account) (w : ℕ) → new ≡ after_loss old → IsBalanced old w → IsBalanced new w
loss_kept old new w is so_far = subst (λ a. IsBalanced a w) (sym is) (loss_balanced old w so_far)

answer_balanced : (a : Account) (w : ℕ) (answer : Result (Unit {0}) SendFault) → answer ≢ Err fault.WouldBlock
    → IsBalanced a (suc w) → IsBalanced (accounted a answer) w
answer_balanced a w (Ok done) gone so_far below = let was = so_far (omega arith) in omega arith
answer_balanced a w (Err fault.WouldBlock) gone so_far below = absurd (gone refl)
answer_balanced a w (Err fault.Unreachable) gone so_far below = let was = so_far (omega arith) in omega arith
answer_balanced a w (Err fault.NotPermitted) gone so_far below = let was = so_far (omega arith) in omega arith
answer_balanced a w (Err fault.Other) gone so_far below = let was = so_far (omega arith) in omega arith

handed_balanced : {A : Type 0} (a : Account) (hs : List (Handed A)) (w : ℕ)
    → AllByRecursion (λ (h : Handed A). h.answer ≢ Err fault.WouldBlock) hs
    → IsBalanced a (length hs + w) → IsBalanced (account_after a hs) w
handed_balanced a [] w all so_far = let none : 0 + w ≡ w = omega arith in subst (IsBalanced a) none so_far
handed_balanced a (h ∷ hs) w all so_far =
    let one : suc (length hs) + w ≡ suc (length hs + w) = omega arith in
    let first = answer_balanced a (length hs + w) h.answer all.0 (subst (IsBalanced a) one so_far) in
    handed_balanced (accounted a h.answer) hs w all.1 first

module _ {A : Type 0} where
  -- what waits for one port is exchanged
  pub waiting_set : (qs : List (PortQueue A)) (k : ℕ) (q q2 : PortQueue A) → slice_get qs k ≡ Some q
      → count_waiting (set qs k q2) + length q.waiting.items ≡ count_waiting qs + length q2.waiting.items
  waiting_set [] k q q2 at = absurd (let bad : None ≡ Some q = at in cc)
  waiting_set (p ∷ ps) zero q q2 at =
      let same = ap (λ (q : PortQueue A). length q.waiting.items) (is_some p q at) in
      omega arith
  waiting_set (p ∷ ps) (suc k) q q2 at = let more = waiting_set ps k q q2 at in omega arith

  none_waits : (share : ℕ) (more : List (PortQueue A)) → AllByRecursion (IsUnused share) more → count_waiting more ≡ 0
  none_waits share [] all = refl
  none_waits share (m ∷ ms) all =
      let none : length m.waiting.items ≡ 0 = ap length all.0.none in
      let rest = none_waits share ms all.1 in
      omega arith

  waiting_more : (share : ℕ) (qs more : List (PortQueue A)) → AllByRecursion (IsUnused share) more
      → count_waiting (qs ++ more) ≡ count_waiting qs
  waiting_more share [] more all = none_waits share more all
  waiting_more share (q ∷ qs) more all = ap (λ n. length q.waiting.items + n) (waiting_more share qs more all)

  pub more_waiting : (share : ℕ) (old new : List (PortQueue A)) → AreMore share old new
      → count_waiting new ≡ count_waiting old
  more_waiting share old new more = ap count_waiting more.behind ∙ waiting_more share old more.more more.unused

  -- one more waits
  pub behind_waiting : (qs : List (PortQueue A)) (k : ℕ) (q q2 : PortQueue A) → slice_get qs k ≡ Some q
      → length q2.waiting.items ≡ length q.waiting.items + 1 → count_waiting (set qs k q2) ≡ count_waiting qs + 1
  behind_waiting qs k q q2 at one = let all = waiting_set qs k q q2 at in omega arith

  -- as many wait as before
  pub same_waiting : (qs : List (PortQueue A)) (k : ℕ) (q q2 : PortQueue A) → slice_get qs k ≡ Some q
      → length q2.waiting.items ≡ length q.waiting.items → count_waiting (set qs k q2) ≡ count_waiting qs
  same_waiting qs k q q2 at one = let all = waiting_set qs k q q2 at in omega arith

-- what waited for a port was sent
pub sent_balanced : {A P : Type 0} (hands : P → P → PortCall → Type 0) (k : ℕ) (ports ports2 : List P)
    (qs qs2 : List (PortQueue A)) (account account2 : Account) (sent : Sent)
    → SendsAt hands k ports ports2 qs qs2 account account2 sent
    → IsBalanced account (count_waiting qs) → IsBalanced account2 (count_waiting qs2)
sent_balanced hands k ports ports2 qs qs2 account account2 sent sends so_far =
    elim sends as (λ _. IsBalanced account2 (count_waiting qs2)) [
      | inl one ↦
          let over = one.drains.handed_over in
          let left = all_left _ _ _ _ _ _ _ _ over in
          let many = over.as_many in
          let set_is = waiting_set qs k one.queue one.queue_after one.queue_is in
          let now = ap count_waiting one.other_queues_stay in
          let total : count_waiting qs ≡ length over.handed + count_waiting qs2 = omega arith in
          subst (λ a. IsBalanced a (count_waiting qs2)) (sym over.counted)
          (handed_balanced account over.handed (count_waiting qs2) over.none_blocked
          (subst (IsBalanced account) total so_far))
      | inr none ↦
          let same = ap count_waiting none.queues_stay in
          let still = subst (IsBalanced account) (sym same) so_far in
          subst (λ a. IsBalanced a (count_waiting qs2)) (sym none.none_counted) still
    ]

-- What becomes of packets, step by step.
use Rattle.std.proofs.Common.{◌≡◌, ◌≢◌, ℕ, zero, suc, List, [], ◌∷◌, ◌++◌, Some, Err, inl, inr, refl, ap}
use Rattle.std.proofs.Common.{sym, subst, ◌∙◌, append-nil, append_assoc}
use Rattle.std.specs.Prelude.{slice_get}
use Rattle.std.specs.List.{AllByRecursion}
use Rattle.std.proofs.Math.ListN.{set}
use Rattle.std.proofs.lemmas.Bool.{cases_eq, eq-eqb, ne_eqb}
use Rattle.roam_admission.specs.declared.datagram.Out.{Out}
use Rattle.roam_port.specs.Fates.{Becomes, BecomesOf, Fate, IsFate, account_by, account_one, finds_no_place, given_of}
use Rattle.roam_port.specs.Fates.{given_one, goes, gone_by, gone_one, waiting_by, waiting_one, waits, waits_on}
use Rattle.roam_port.specs.Outbox.{IsLostBehind, IsPut, IsTriedAgain, waiting_of}
use Rattle.roam_port.specs.PortQueue.{Handed, account_after, packets_of}
use Rattle.roam_port.specs.Queues.{AreMore, IsUnused}
use Rattle.roam_port.specs.Sockets.{socket_number}
use Rattle.roam_port.specs.declared.account.Account.{Account}
use Rattle.roam_port.specs.declared.outbox.Outbox.{Outbox}
use Rattle.roam_port.specs.declared.port.SendFault.TheVariants as fault
use Rattle.roam_port.specs.declared.port_queue.PortQueue.{PortQueue}
use Rattle.roam_port.proofs.ListedLemmas.{get-set_other, get-set_same, get-within}

module _ {A : Type 0} where
  pub given-both : (f g : List (Fate A)) → given_of (f ++ g) ≡ given_of f ++ given_of g
  given-both [] g = refl
  given-both (x ∷ f) g =
      ap (λ l. given_one x ++ l) (given-both f g) ∙ sym (append_assoc (given_one x) (given_of f) (given_of g))

  pub waiting-both : (k : ℕ) (f g : List (Fate A)) → waiting_by k (f ++ g) ≡ waiting_by k f ++ waiting_by k g
  waiting-both k [] g = refl
  waiting-both k (x ∷ f) g =
      ap (λ l. waiting_one k x ++ l) (waiting-both k f g)
      ∙ sym (append_assoc (waiting_one k x) (waiting_by k f) (waiting_by k g))

  pub gone-both : (k : ℕ) (f g : List (Fate A)) → gone_by k (f ++ g) ≡ gone_by k f ++ gone_by k g
  gone-both k [] g = refl
  gone-both k (x ∷ f) g =
      ap (λ l. gone_one k x ++ l) (gone-both k f g) ∙ sym (append_assoc (gone_one k x) (gone_by k f) (gone_by k g))

  pub account-both : (a : Account) (f g : List (Fate A)) → account_by a (f ++ g) ≡ account_by (account_by a f) g
  account-both a [] g = refl
  account-both a (x ∷ f) g = account-both (account_one a x) f g

  pub each-both : (f g : List (Fate A)) → AllByRecursion IsFate f → AllByRecursion IsFate g
      → AllByRecursion IsFate (f ++ g)
  each-both [] g first second = second
  each-both (x ∷ f) g first second = (first.0, each-both f g first.1 second)

  pub in_turn : (w0 w1 w2 l1 l2 g1 g2 : List (Out A)) → w0 ++ l1 ≡ g1 ++ w1 → w1 ++ l2 ≡ g2 ++ w2
      → w0 ++ (l1 ++ l2) ≡ (g1 ++ g2) ++ w2
  in_turn w0 w1 w2 l1 l2 g1 g2 first second =
      sym (append_assoc w0 l1 l2) ∙ ap (λ l. l ++ l2) first ∙ append_assoc g1 w1 l2
      ∙ ap (λ l. g1 ++ l) second ∙ sym (append_assoc g1 g2 w2)

  -- one thing after the other
  unfoldable pub becomes_both : (xs ys : List (Out A)) (a b c : List (PortQueue A)) (k l m : Account)
      → BecomesOf xs a b k l → BecomesOf ys b c l m → BecomesOf (xs ++ ys) a c k m
  becomes_both xs ys a b c k l m first second =
      let f = first.fates in
      let g = second.fates in
      record {
        fates = f ++ g;
        these = given-both f g ∙ ap (λ l. l ++ given_of g) first.these ∙ ap (λ l. xs ++ l) second.these;
        each = each-both f g first.each second.each;
        in_order = λ n.
            ap (λ l. waiting_of (slice_get a n) ++ l) (waiting-both n f g)
            ∙ in_turn (waiting_of (slice_get a n)) (waiting_of (slice_get b n)) (waiting_of (slice_get c n))
            (waiting_by n f) (waiting_by n g) (gone_by n f) (gone_by n g) (first.in_order n) (second.in_order n)
            ∙ ap (λ l. l ++ waiting_of (slice_get c n)) (sym (gone-both n f g));
        counted = second.counted ∙ ap (λ a. account_by a g) first.counted ∙ sym (account-both k f g);
      }

  -- nothing
  unfoldable pub becomes_none : (old new : List (PortQueue A)) (k l : Account)
      → ((n : ℕ) → waiting_of (slice_get new n) ≡ waiting_of (slice_get old n)) → l ≡ k → BecomesOf [] old new k l
  becomes_none old new k l same account = record {
    fates = [];
    these = refl;
    each = tt;
    in_order = λ n. append-nil (waiting_of (slice_get old n)) ∙ sym (same n);
    counted = account;
  }

  unfoldable pub becomes_same : (old new : List (PortQueue A)) (k l : Account) → new ≡ old → l ≡ k
      → BecomesOf [] old new k l
  becomes_same old new k l same account =
      becomes_none old new k l (λ n. ap (λ qs. waiting_of (slice_get qs n)) same) account

  pub set_at : (qs : List (PortQueue A)) (k : ℕ) (q p : PortQueue A) → slice_get qs k ≡ Some q
      → waiting_of (slice_get (set qs k p) k) ≡ p.waiting.items
  set_at qs k q p at = ap waiting_of (get-set_same qs k p (get-within qs k q at))

  -- a packet waits
  unfoldable pub put_one : (out : Out A) (old new : Outbox A) → IsPut out old new → Becomes (out ∷ []) old new
  put_one out old new put =
      let b = put.behind in
      let qs = old.queues.items in
      let s = socket_number out.from in
      record {
        fates = waits out ∷ [];
        these = refl;
        each = (tt, tt);
        in_order = λ n. elim (cases_eq s n)
            as (λ _. waiting_of (slice_get qs n) ++ waiting_by n (waits out ∷ [])
            ≡ waiting_of (slice_get new.queues.items n)) [
              | inl same ↦
                  rw (eq-eqb s n same)
                  (subst (λ n. waiting_of (slice_get qs n) ++ out ∷ [] ≡ waiting_of (slice_get new.queues.items n)) same
                  (ap (λ o. waiting_of o ++ out ∷ []) b.before_is ∙ sym b.becomes.behind
                  ∙ sym (set_at qs s b.before b.after b.before_is)
                  ∙ ap (λ l. waiting_of (slice_get l s)) (sym b.others_stay)))
              | inr other ↦
                  rw (ne_eqb s n other)
                  (append-nil (waiting_of (slice_get qs n))
                  ∙ ap waiting_of (sym (get-set_other qs s n b.after (λ is. other (sym is))))
                  ∙ ap (λ l. waiting_of (slice_get l n)) (sym b.others_stay))
            ];
        counted = put.counted_once;
      }

  -- or it finds no place
  unfoldable pub lost_one : (out : Out A) (old new : Outbox A) → IsLostBehind out old new → Becomes (out ∷ []) old new
  lost_one out old new lost = record {
    fates = finds_no_place out ∷ [];
    these = refl;
    each = (tt, tt);
    in_order = λ n. append-nil (waiting_of (slice_get old.queues.items n))
        ∙ ap (λ q. waiting_of (slice_get q.items n)) (sym lost.as_before);
    counted = lost.counted_once;
  }

  abbrev pub all_go : ℕ → List (Handed A) → List (Fate A)
  all_go k [] = []
  all_go k (h ∷ hs) = goes k h ∷ all_go k hs

  pub none-given : (k : ℕ) (hs : List (Handed A)) → given_of (all_go k hs) ≡ []
  none-given k [] = refl
  none-given k (h ∷ hs) = none-given k hs

  pub none-waits : (n k : ℕ) (hs : List (Handed A)) → waiting_by n (all_go k hs) ≡ []
  none-waits n k [] = refl
  none-waits n k (h ∷ hs) = none-waits n k hs

  pub each-goes : (k : ℕ) (hs : List (Handed A)) → AllByRecursion (λ (h : Handed A). h.answer ≢ Err fault.WouldBlock) hs
      → AllByRecursion IsFate (all_go k hs)
  each-goes k [] all = tt
  each-goes k (h ∷ hs) all = (all.0, each-goes k hs all.1)

  pub account-goes : (a : Account) (k : ℕ) (hs : List (Handed A)) → account_by a (all_go k hs) ≡ account_after a hs
  account-goes a k [] = refl
  account-goes a k (h ∷ hs) = account-goes (account_one a (goes k h)) k hs

  pub gone-here : (k : ℕ) (hs : List (Handed A)) → gone_by k (all_go k hs) ≡ packets_of hs
  gone-here k [] = refl
  gone-here k (h ∷ hs) = rw (eq-eqb k k refl) (ap (λ l. h.out ∷ l) (gone-here k hs))

  pub gone-elsewhere : (n k : ℕ) (hs : List (Handed A)) → k ≢ n → gone_by n (all_go k hs) ≡ []
  gone-elsewhere n k [] other = refl
  gone-elsewhere n k (h ∷ hs) other = rw (ne_eqb k n other) (gone-elsewhere n k hs other)

  -- what waits for one port was handed to it, and is gone
  unfoldable pub handed_become : (k : ℕ) (qs qs2 : List (PortQueue A)) (q q2 : PortQueue A) (a a2 : Account)
      (hs : List (Handed A)) → slice_get qs k ≡ Some q → qs2 ≡ set qs k q2
      → q.waiting.items ≡ packets_of hs ++ q2.waiting.items
      → AllByRecursion (λ (h : Handed A). h.answer ≢ Err fault.WouldBlock) hs → a2 ≡ account_after a hs
      → BecomesOf [] qs qs2 a a2
  handed_become k qs qs2 q q2 a a2 hs at stay order none_blocked counted = record {
    fates = all_go k hs;
    these = none-given k hs;
    each = each-goes k hs none_blocked;
    in_order = λ n.
        ap (λ l. waiting_of (slice_get qs n) ++ l) (none-waits n k hs)
        ∙ append-nil (waiting_of (slice_get qs n))
        ∙ elim (cases_eq k n)
        as (λ _. waiting_of (slice_get qs n) ≡ gone_by n (all_go k hs) ++ waiting_of (slice_get qs2 n)) [
          | inl same ↦
              subst (λ n. waiting_of (slice_get qs n) ≡ gone_by n (all_go k hs) ++ waiting_of (slice_get qs2 n)) same
              (ap waiting_of at ∙ order
              ∙ ap (λ l. l ++ q2.waiting.items) (sym (gone-here k hs))
              ∙ ap (λ l. gone_by k (all_go k hs) ++ l)
              (sym (set_at qs k q q2 at) ∙ ap (λ l. waiting_of (slice_get l k)) (sym stay)))
          | inr other ↦
              sym (ap (λ l. l ++ waiting_of (slice_get qs2 n)) (gone-elsewhere n k hs other)
              ∙ ap (λ l. waiting_of (slice_get l n)) stay
              ∙ ap waiting_of (get-set_other qs k n q2 (λ is. other (sym is))))
        ];
    counted = counted ∙ sym (account-goes a k hs);
  }

  -- the oldest finds no room
  unfoldable pub blocked_become : (k : ℕ) (out : Out A) (qs : List (PortQueue A)) (a : Account) → BecomesOf [] qs qs a a
  blocked_become k out qs a = record {
    fates = waits_on k out ∷ [];
    these = refl;
    each = (tt, tt);
    in_order = λ n. append-nil (waiting_of (slice_get qs n));
    counted = refl;
  }

module _ {A : Type 0} where
  -- a port is tried again
  pub tried_become : (socket : ℕ) (old new : Outbox A) → IsTriedAgain socket old new → Becomes [] old new
  tried_become socket old new did = elim did.listed as (λ _. Becomes [] old new) [
    | inl at ↦ becomes_none old.queues.items new.queues.items old.account new.account (λ n.
        ap (λ l. waiting_of (slice_get l n)) at.others_stay
        ∙ elim (cases_eq n socket)
        as (λ _. waiting_of (slice_get (set old.queues.items socket at.after) n)
        ≡ waiting_of (slice_get old.queues.items n)) [
          | inl same ↦
              subst (λ n. waiting_of (slice_get (set old.queues.items socket at.after) n)
              ≡ waiting_of (slice_get old.queues.items n)) (sym same)
              (set_at old.queues.items socket at.before at.after at.before_is ∙ at.becomes.same_packets
              ∙ ap waiting_of (sym at.before_is))
          | inr other ↦ ap waiting_of (get-set_other old.queues.items socket n at.after other)
        ]) did.none_counted
    | inr none ↦
        becomes_same old.queues.items new.queues.items old.account new.account (ap (λ q. q.items) none.1)
        did.none_counted
  ]

  more-wait : (share : ℕ) (qs more : List (PortQueue A)) → AllByRecursion (IsUnused share) more → (n : ℕ)
      → waiting_of (slice_get (qs ++ more) n) ≡ waiting_of (slice_get qs n)
  more-wait share [] [] all n = refl
  more-wait share [] (m ∷ more) all zero = all.0.none
  more-wait share [] (m ∷ more) all (suc n) = more-wait share [] more all.1 n
  more-wait share (q ∷ qs) more all zero = refl
  more-wait share (q ∷ qs) more all (suc n) = more-wait share qs more all n

  -- there are further ports
  pub more_become : (share : ℕ) (old new : List (PortQueue A)) (k l : Account) → AreMore share old new → l ≡ k
      → BecomesOf [] old new k l
  more_become share old new k l more account =
      becomes_none old new k l (λ n. ap (λ qs. waiting_of (slice_get qs n)) more.behind
      ∙ more-wait share old more.more more.unused n) account

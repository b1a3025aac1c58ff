-- What becomes of packets, and which sends are made at the ports.
use Rattle.std.proofs.Common.{◌≡◌, ◌≢◌, ℕ, List, [], ◌∷◌, ◌++◌, Option, Some, None, Err, inl, inr, refl, ap, sym, subst}
use Rattle.std.proofs.Common.{◌∙◌, append_assoc}
use Rattle.std.specs.Prelude.{slice_get}
use Rattle.std.proofs.Math.ListN.{set}
use Rattle.std.proofs.lemmas.Bool.{cases_eq, eq-eqb, ne_eqb}
use Rattle.roam_admission.specs.declared.datagram.Out.{Out}
use Rattle.roam_port.specs.Fates.{BecomesAt, Fate, GoesOrWaits, PortMakes, calls_by, calls_one, waits_on}
use Rattle.roam_port.specs.Outbox.{Puts, PutsSending, SendsAll}
use Rattle.roam_port.specs.Port.{MakesAll, PortCall, send_call}
use Rattle.roam_port.specs.PortQueue.{Handed, HandsOver, calls_of}
use Rattle.roam_port.specs.Queues.{SendsAlong, SendsAt, SendsOne}
use Rattle.roam_port.specs.declared.account.Account.{Account}
use Rattle.roam_port.specs.declared.outbox.Outbox.{Outbox}
use Rattle.roam_port.specs.declared.port.SendFault.TheVariants as fault
use Rattle.roam_port.specs.declared.port_queue.PortQueue.{PortQueue}
use Rattle.roam_port.specs.declared.sent.Sent.{Sent}
use Rattle.roam_port.proofs.FateLemmas.{all_go, becomes_both, becomes_none, becomes_same, blocked_become, handed_become}
use Rattle.roam_port.proofs.FateLemmas.{lost_one, put_one}
use Rattle.roam_port.proofs.ListedLemmas.{get-set_other, get-set_same, get-within}

module _ {A : Type 0} where
  calls-both : (k : ℕ) (f g : List (Fate A)) → calls_by k (f ++ g) ≡ calls_by k f ++ calls_by k g
  calls-both k [] g = refl
  calls-both k (x ∷ f) g =
      ap (λ l. calls_one k x ++ l) (calls-both k f g) ∙ sym (append_assoc (calls_one k x) (calls_by k f) (calls_by k g))

  calls-here : (k : ℕ) (hs : List (Handed A)) → calls_by k (all_go k hs) ≡ calls_of hs
  calls-here k [] = refl
  calls-here k (h ∷ hs) =
      rw (eq-eqb k k refl) (ap (λ l. send_call h.answer h.out.from h.out.to h.out.bytes ∷ l) (calls-here k hs))

  calls-elsewhere : (n k : ℕ) (hs : List (Handed A)) → k ≢ n → calls_by n (all_go k hs) ≡ []
  calls-elsewhere n k [] other = refl
  calls-elsewhere n k (h ∷ hs) other = rw (ne_eqb k n other) (calls-elsewhere n k hs other)

module _ {P : Type 0} (hands : P → P → PortCall → Type 0) where
  makes_both : (p q r : P) (cs ds : List PortCall) → MakesAll hands p q cs → MakesAll hands q r ds
      → MakesAll hands p r (cs ++ ds)
  makes_both p q r [] ds made more = subst (λ x. MakesAll hands x r ds) made more
  makes_both p q r (c ∷ cs) ds made more = (made.0, made.1, makes_both made.0 q r cs ds made.2 more)

  makes_none : (o : Option P) → PortMakes hands o o []
  makes_none None = (refl, refl)
  makes_none (Some p) = (p, refl, refl)

  ports_both : (o1 o2 o3 : Option P) (cs ds : List PortCall) → PortMakes hands o1 o2 cs → PortMakes hands o2 o3 ds
      → PortMakes hands o1 o3 (cs ++ ds)
  ports_both None o2 o3 cs ds first second =
      let more = subst (λ o. PortMakes hands o o3 ds) first.0 second in
      (more.0, ap (λ l. l ++ ds) first.1 ∙ more.1)
  ports_both (Some p) o2 o3 cs ds first second =
      let more = subst (λ o. PortMakes hands o o3 ds) first.1 second in
      (more.0, more.1, makes_both p first.0 more.0 cs ds first.2 more.2)

  -- sends were made at one of the ports
  port_set : (k n : ℕ) (old new : List P) (p q : P) (cs ds : List PortCall) → slice_get old k ≡ Some p
      → slice_get new k ≡ Some q → (k ≢ n → slice_get new n ≡ slice_get old n) → MakesAll hands p q cs
      → (k ≡ n → ds ≡ cs) → (k ≢ n → ds ≡ []) → PortMakes hands (slice_get old n) (slice_get new n) ds
  port_set k n old new p q cs ds was is others made here elsewhere =
      elim (cases_eq k n) as (λ _. PortMakes hands (slice_get old n) (slice_get new n) ds) [
        | inl same ↦
            subst (λ o. PortMakes hands o (slice_get new n) ds) (sym (ap (slice_get old) (sym same) ∙ was))
            (q, ap (slice_get new) (sym same) ∙ is, subst (MakesAll hands p q) (sym (here same)) made)
        | inr other ↦
            subst (λ l. PortMakes hands (slice_get old n) (slice_get new n) l) (sym (elsewhere other))
            (subst (λ o. PortMakes hands (slice_get old n) o []) (sym (others other)) (makes_none (slice_get old n)))
      ]

module _ {A P : Type 0} (hands : P → P → PortCall → Type 0) where
  -- one thing after the other
  at_both : (xs ys : List (Out A)) (p0 p1 p2 : List P) (a b c : List (PortQueue A)) (k l m : Account)
      → BecomesAt hands xs p0 p1 a b k l → BecomesAt hands ys p1 p2 b c l m
      → BecomesAt hands (xs ++ ys) p0 p2 a c k m
  unfolding becomes_both
  at_both xs ys p0 p1 p2 a b c k l m first second =
      let f = first.become.fates in
      let g = second.become.fates in
      record {
        become = becomes_both xs ys a b c k l m first.become second.become;
        made = λ n.
            subst (λ l. PortMakes hands (slice_get p0 n) (slice_get p2 n) l) (sym (calls-both n f g))
            (ports_both hands (slice_get p0 n) (slice_get p1 n) (slice_get p2 n) (calls_by n f) (calls_by n g)
            (first.made n) (second.made n));
      }

  at_same : (ports ports2 : List P) (old new : List (PortQueue A)) (k l : Account) → ports2 ≡ ports → new ≡ old
      → l ≡ k → BecomesAt hands [] ports ports2 old new k l
  unfolding becomes_same becomes_none
  at_same ports ports2 old new k l stay same account = record {
    become = becomes_same old new k l same account;
    made = λ n. subst (λ ps. PortMakes hands (slice_get ports n) (slice_get ps n) []) (sym stay)
        (makes_none hands (slice_get ports n));
  }

  put_at : (out : Out A) (ports : List P) (old new : Outbox A) → Puts out old new
      → GoesOrWaits hands (out ∷ []) ports ports old new
  unfolding put_one lost_one
  put_at out ports old new puts = elim puts as (λ _. GoesOrWaits hands (out ∷ []) ports ports old new) [
    | inl put ↦ record {
      become = put_one out old new put;
      made = λ n. makes_none hands (slice_get ports n);
    }
    | inr lost ↦ record {
      become = lost_one out old new lost;
      made = λ n. makes_none hands (slice_get ports n);
    }
  ]

  -- what waits for one port is handed to it
  module _ (k : ℕ) (ports ports2 : List P) (qs qs2 : List (PortQueue A)) (a a2 : Account) (sent : Sent)
      (one : SendsOne hands k ports ports2 qs qs2 a a2 sent) where
    handed_at : (between : P)
        → HandsOver hands one.port between one.queue.waiting.items one.queue_after.waiting.items a a2 sent.gone
        → BecomesAt hands [] ports (set ports k between) qs qs2 a a2
    unfolding handed_become
    handed_at between over =
        let hs = over.handed in
        let lt = get-within ports k one.port one.port_is in
        record {
          become = handed_become k qs qs2 one.queue one.queue_after a a2 hs one.queue_is one.other_queues_stay
              over.in_order over.none_blocked over.counted;
          made = λ n.
              port_set hands k n ports (set ports k between) one.port between (calls_of hs) (calls_by n (all_go k hs))
              one.port_is (get-set_same ports k between lt) (λ ne. get-set_other ports k n between (λ is. ne (sym is)))
              over.made (λ same. ap (λ n. calls_by n (all_go k hs)) (sym same) ∙ calls-here k hs)
              (λ ne. calls-elsewhere n k hs ne);
        }

    blocked_at : (between : P) (out : Out A)
        → hands between one.port_after (send_call (Err fault.WouldBlock) out.from out.to out.bytes)
        → BecomesAt hands [] (set ports k between) (set ports k one.port_after) qs2 qs2 a2 a2
    unfolding blocked_become
    blocked_at between out made =
        let lt = get-within ports k one.port one.port_is in
        let call = send_call (Err fault.WouldBlock) out.from out.to out.bytes in
        record {
          become = blocked_become k out qs2 a2;
          made = λ n.
              port_set hands k n (set ports k between) (set ports k one.port_after) between one.port_after (call ∷ [])
              (calls_by n (waits_on k out ∷ [])) (get-set_same ports k between lt)
              (get-set_same ports k one.port_after lt)
              (λ ne. get-set_other ports k n one.port_after (λ is. ne (sym is))
              ∙ sym (get-set_other ports k n between (λ is. ne (sym is))))
              (one.port_after, made, refl) (λ same. rw (eq-eqb k n same) refl) (λ ne. rw (ne_eqb k n ne) refl);
        }

    one_at : BecomesAt hands [] ports ports2 qs qs2 a a2
    one_at =
        let d = one.drains in
        let first = handed_at d.between d.handed_over in
        subst (λ ps. BecomesAt hands [] ports ps qs qs2 a a2) (sym one.other_ports_stay)
        (elim d.ends as (λ _. BecomesAt hands [] ports (set ports k one.port_after) qs qs2 a a2) [
          | inl emptied ↦
              subst (λ p. BecomesAt hands [] ports (set ports k p) qs qs2 a a2) (sym emptied.same_port) first
          | inr blocked ↦
              at_both [] [] ports (set ports k d.between) (set ports k one.port_after) qs qs2 qs2 a a2 a2 first
              (blocked_at d.between blocked.out blocked.made)
        ])

  sends_at : (k : ℕ) (ports ports2 : List P) (qs qs2 : List (PortQueue A)) (a a2 : Account) (sent : Sent)
      → SendsAt hands k ports ports2 qs qs2 a a2 sent → BecomesAt hands [] ports ports2 qs qs2 a a2
  sends_at k ports ports2 qs qs2 a a2 sent sends = elim sends as (λ _. BecomesAt hands [] ports ports2 qs qs2 a a2) [
    | inl one ↦ one_at k ports ports2 qs qs2 a a2 sent one
    | inr none ↦ at_same ports ports2 qs qs2 a a2 none.ports_stay none.queues_stay none.none_counted
  ]

  along_at : (sockets : List ℕ) (ports ports2 : List P) (qs qs2 : List (PortQueue A)) (a a2 : Account) (sent : Sent)
      → SendsAlong hands sockets ports ports2 qs qs2 a a2 sent → BecomesAt hands [] ports ports2 qs qs2 a a2
  along_at [] ports ports2 qs qs2 a a2 sent none = at_same ports ports2 qs qs2 a a2 none.0 none.1 none.2
  along_at (k ∷ ks) ports ports2 qs qs2 a a2 sent did =
      at_both [] [] ports did.0 ports2 qs did.1 qs2 a did.2 a2
      (along_at ks ports did.0 qs did.1 a did.2 did.3 did.5)
      (sends_at k did.0 ports2 did.1 qs2 did.2 a2 did.4 did.6)

  pub all_go_or_wait : (ports ports2 : List P) (old new : Outbox A) (sent : Sent)
      → SendsAll hands ports ports2 old new sent → GoesOrWaits hands [] ports ports2 old new
  all_go_or_wait ports ports2 old new sent did =
      along_at did.sockets ports ports2 old.queues.items new.queues.items old.account new.account sent did.along

  pub puts_go_or_wait : (out : Out A) (ports ports2 : List P) (old new : Outbox A) (sent : Sent)
      → PutsSending hands out ports ports2 old new sent → GoesOrWaits hands (out ∷ []) ports ports2 old new
  puts_go_or_wait out ports ports2 old new sent did =
      at_both [] (out ∷ []) ports ports2 ports2 old.queues.items did.between.queues.items new.queues.items old.account
      did.between.account new.account before (put_at out ports2 did.between new did.puts)
    where
      before : GoesOrWaits hands [] ports ports2 old did.between
      before = elim did.sends as (λ _. GoesOrWaits hands [] ports ports2 old did.between) [
        | inl sends ↦ all_go_or_wait ports ports2 old did.between sent sends
        | inr none ↦
            at_same ports ports2 old.queues.items did.between.queues.items old.account did.between.account none.0
            (ap (λ (o : Outbox A). o.queues.items) none.1) (ap (λ (o : Outbox A). o.account) none.1)
      ]

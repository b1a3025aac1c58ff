-- What was handed to a port, packet by packet.
use Rattle.std.proofs.Common.{◌≡◌, ◌≢◌, ℕ, suc, ◌+◌, List, [], ◌∷◌, ◌++◌, length, Bool, true, false}
use Rattle.std.proofs.Common.{Result, Ok, Err, refl, ap, sym, ◌∙◌, subst, arith}
use Rattle.std.specs.List.{AllByRecursion}
use Rattle.std.proofs.lemmas.List.{length-append}
use Rattle.roam_admission.specs.declared.datagram.Out.{Out}
use Rattle.roam_port.specs.Accounts.{accounted}
use Rattle.roam_port.specs.Port.{MakesAll, PortCall, send_call}
use Rattle.roam_port.specs.PortQueue.{Handed, HandsOldest, HandsOver, IsLeft, packets_of, calls_of, account_after}
use Rattle.roam_port.specs.declared.account.Account.{Account}
use Rattle.roam_port.specs.declared.port.SendFault.{SendFault}
use Rattle.roam_port.specs.declared.port.SendFault.TheVariants as fault

pub packets_one_more : {A : Type 0} (hs : List (Handed A)) (h : Handed A) (left : List (Out A))
    → packets_of (hs ++ h ∷ []) ++ left ≡ packets_of hs ++ h.out ∷ left
packets_one_more [] h left = refl
packets_one_more (g ∷ hs) h left = ap (λ ps. g.out ∷ ps) (packets_one_more hs h left)

pub calls_one_more : {A : Type 0} (hs : List (Handed A)) (h : Handed A)
    → calls_of (hs ++ h ∷ []) ≡ calls_of hs ++ send_call h.answer h.out.from h.out.to h.out.bytes ∷ []
calls_one_more [] h = refl
calls_one_more (g ∷ hs) h =
    ap (λ cs. send_call g.answer g.out.from g.out.to g.out.bytes ∷ cs) (calls_one_more hs h)

pub account_one_more : {A : Type 0} (account : Account) (hs : List (Handed A)) (h : Handed A)
    → account_after account (hs ++ h ∷ []) ≡ accounted (account_after account hs) h.answer
account_one_more account [] h = refl
account_one_more account (g ∷ hs) h = account_one_more (accounted account g.answer) hs h

pub none_one_more : {A : Type 0} (hs : List (Handed A)) (h : Handed A)
    → AllByRecursion (λ (h : Handed A). h.answer ≢ Err fault.WouldBlock) hs → h.answer ≢ Err fault.WouldBlock
    → AllByRecursion (λ (h : Handed A). h.answer ≢ Err fault.WouldBlock) (hs ++ h ∷ [])
none_one_more [] h all one = (one, tt)
none_one_more (g ∷ hs) h all one = (all.0, none_one_more hs h all.1 one)

pub made_one_more : {P : Type 0} (hands : P → P → PortCall → Type 0) (start port next : P) (cs : List PortCall)
    (c : PortCall) → MakesAll hands start port cs → hands port next c → MakesAll hands start next (cs ++ c ∷ [])
made_one_more hands start port next [] c was one = (next, subst (λ p. hands p next c) was one, refl)
made_one_more hands start port next (d ∷ cs) c was one =
    (was.0, was.1, made_one_more hands was.0 port next cs c was.2 one)

pub gone_is : {A : Type 0} (out : Out A) (behind left : List (Out A)) (answer : Result (Unit {0}) SendFault)
    → IsLeft out behind left true answer → (answer ≢ Err fault.WouldBlock) × (left ≡ behind)
gone_is out behind left (Ok done) is = ((λ same. cc), is.1)
gone_is out behind left (Err fault.WouldBlock) is = absurd (let bad : true ≡ false = is.0 in cc)
gone_is out behind left (Err fault.Unreachable) is = ((λ same. cc), is.1)
gone_is out behind left (Err fault.NotPermitted) is = ((λ same. cc), is.1)
gone_is out behind left (Err fault.Other) is = ((λ same. cc), is.1)

module _ {A P : Type 0} (hands : P → P → PortCall → Type 0) (start port next : P) (waited left rest : List (Out A))
    (account_0 account_1 account_2 : Account) (n : ℕ)
    (so_far : HandsOver hands start port waited left account_0 account_1 n) where
  -- one more packet is gone
  pub one_more : (r : Bool) → r ≡ true → HandsOldest hands port next left rest account_1 account_2 r
      → HandsOver hands start next waited rest account_0 account_2 (n + 1)
  one_more r is_gone one =
      let h : Handed A = record { out = one.out; answer = one.answer } in
      let is = gone_is one.out one.behind rest one.answer
      (subst (λ b. IsLeft one.out one.behind rest b one.answer) is_gone one.left) in
      let size = length-append so_far.handed (h ∷ []) in
      let many = so_far.as_many in
      record {
        handed = so_far.handed ++ h ∷ [];
        as_many = omega arith;
        in_order = so_far.in_order
            ∙ ap (λ w. packets_of so_far.handed ++ w) (one.oldest ∙ ap (λ b. one.out ∷ b) (sym is.1))
            ∙ sym (packets_one_more so_far.handed h rest);
        none_blocked = none_one_more so_far.handed h so_far.none_blocked is.0;
        made = subst (MakesAll hands start next) (sym (calls_one_more so_far.handed h))
            (made_one_more hands start port next (calls_of so_far.handed)
            (send_call h.answer h.out.from h.out.to h.out.bytes) so_far.made one.made);
        counted = one.counted_once ∙ ap (λ l. accounted l one.answer) so_far.counted
            ∙ sym (account_one_more account_0 so_far.handed h);
      }

-- what waits, and what is gone, are as many as waited
pub all_left : {A P : Type 0} (hands : P → P → PortCall → Type 0) (start port : P) (waited left : List (Out A))
    (l m : Account) (n : ℕ) → HandsOver hands start port waited left l m n → n + length left ≡ length waited
all_left hands start port waited left l m n so_far =
    let size = length-append (packets_of so_far.handed) left in
    let packets = length_packets so_far.handed in
    let many = so_far.as_many in
    let whole = ap length so_far.in_order in
    omega arith
  where
    length_packets : {A : Type 0} (hs : List (Handed A)) → length (packets_of hs) ≡ length hs
    length_packets [] = refl
    length_packets (h ∷ hs) = ap suc (length_packets hs)

-- The packets that wait for one port, and how they are handed to it (ours).
use Rattle.std.specs.Prelude.{◌≡◌, ◌≢◌, ◌⊎◌, ℕ, List, [], ◌∷◌, ◌++◌, Bool, true, false, Result}
use Rattle.std.specs.Prelude.{Err, length}
use Rattle.std.specs.List.{AllByRecursion}
use Rattle.roam_admission.specs.declared.datagram.Out.{Out}
use Rattle.roam_port.specs.Accounts.{accounted}
use Rattle.roam_port.specs.Port.{MakesAll, PortCall, send_call}
use Rattle.roam_port.specs.declared.account.Account.{Account}
use Rattle.roam_port.specs.declared.port.SendFault.{SendFault}
use Rattle.roam_port.specs.declared.port.SendFault.TheVariants as fault
use Rattle.roam_port.specs.declared.port_queue.PortQueue.{PortQueue}
use Rattle.roam_port.specs.declared.port_queue.Standing.{Standing}
use Rattle.roam_port.specs.declared.port_queue.Standing.TheVariants as standing

-- how packets stand once another one came in: where none waited, they are listed, and else they stand as before
abbrev pub after_put : Standing → Standing
after_put standing.Idle = standing.Listed
after_put standing.Listed = standing.Listed
after_put standing.Aside = standing.Aside

abbrev pub is_idle : Standing → Bool
is_idle standing.Idle = true
is_idle standing.Listed = false
is_idle standing.Aside = false

abbrev pub is_listed : Standing → Bool
is_listed standing.Idle = false
is_listed standing.Listed = true
is_listed standing.Aside = false

abbrev pub is_aside : Standing → Bool
is_aside standing.Idle = false
is_aside standing.Listed = false
is_aside standing.Aside = true

-- ## Packet handed once
-- The packets that wait for a port are handed to it in order, each once, from its place, with its destination and
-- octets, until none waits or the port answers that it has no room: that one and those behind it stand aside, and are
-- handed on when the port is tried again. A sending does so for each port for which packets are listed; every other
-- port is unchanged.
-- Source: ours
-- Rules out: a packet sent twice, out of order, or from another realm's place; a port without room that holds up
-- another
-- Stands in: `roam_port` `PortQueue.antt`: `HandsOver`, `Drains`, `IsBlocked`; `Queues.antt`: `SendsAt`,
-- `SendsAlong`; `Outbox.antt`: `SendsAll`, `IsTriedAgain`; `Outbox::send_all`, `put_sending`, `try_again`
--
-- a packet that was handed to its port, with what that answered
pub record Handed (A : Type 0) : Type 0 where
  pub out : Out A
  pub answer : Result (Unit {0}) SendFault

-- the packets, in order
abbrev pub packets_of : {A : Type 0} → List (Handed A) → List (Out A)
packets_of [] = []
packets_of (h ∷ hs) = h.out ∷ packets_of hs

-- the calls by which they were handed on, one for each
abbrev pub calls_of : {A : Type 0} → List (Handed A) → List PortCall
calls_of [] = []
calls_of (h ∷ hs) = send_call h.answer h.out.from h.out.to h.out.bytes ∷ calls_of hs

-- the account after them: one more for each that failed, by its cause
abbrev pub account_after : {A : Type 0} → Account → List (Handed A) → Account
account_after account [] = account
account_after account (h ∷ hs) = account_after (accounted account h.answer) hs

-- what is left when the oldest packet was handed to its port, by what that answered: where it has no room the packet
-- waits on in its place, and else it is gone
abbrev pub IsLeft : {A : Type 0} → Out A → List (Out A) → List (Out A) → Bool → Result (Unit {0}) SendFault → Type 0
IsLeft out behind left is_gone (Err fault.WouldBlock) = (is_gone ≡ false) × (left ≡ out ∷ behind)
IsLeft out behind left is_gone answer = (is_gone ≡ true) × (left ≡ behind)

-- the oldest packet was handed to its port, once
pub record HandsOldest
    {A P : Type 0}
    (hands : P → P → PortCall → Type 0)
    (old_port new_port : P)
    (old new : List (Out A))
    (old_account new_account : Account)
    (is_gone : Bool)
    : Type 0 where
  pub out : Out A
  pub behind : List (Out A)
  pub oldest : old ≡ out ∷ behind
  pub answer : Result (Unit {0}) SendFault
  pub made : hands old_port new_port (send_call answer out.from out.to out.bytes)
  pub left : IsLeft out behind new is_gone answer
  pub counted_once : new_account ≡ accounted old_account answer

-- the oldest packets, so many, were handed to their port in order, each once; none of them found it without room, and
-- each is counted
pub record HandsOver
    {A P : Type 0}
    (hands : P → P → PortCall → Type 0)
    (old_port new_port : P)
    (old new : List (Out A))
    (old_account new_account : Account)
    (count : ℕ)
    : Type 0 where
  pub handed : List (Handed A)
  pub as_many : length handed ≡ count
  pub in_order : old ≡ packets_of handed ++ new
  pub none_blocked : AllByRecursion (λ h. h.answer ≢ Err fault.WouldBlock) handed
  pub made : MakesAll hands old_port new_port (calls_of handed)
  pub counted : new_account ≡ account_after old_account handed

-- none waits any more
pub record IsEmptied {A P : Type 0} (old_port new_port : P) (new : PortQueue A) : Type 0 where
  pub none : new.waiting.items ≡ []
  pub idle : new.standing ≡ standing.Idle
  pub same_port : new_port ≡ old_port

-- the port had no room for the oldest that waits, which was handed to it once: it stands aside, with those behind it
pub record IsBlocked
    {A P : Type 0}
    (hands : P → P → PortCall → Type 0)
    (old_port new_port : P)
    (new : PortQueue A)
    : Type 0 where
  pub out : Out A
  pub behind : List (Out A)
  pub waits_on : new.waiting.items ≡ out ∷ behind
  pub aside : new.standing ≡ standing.Aside
  pub made : hands old_port new_port (send_call (Err fault.WouldBlock) out.from out.to out.bytes)

-- the packets that waited were handed to their port in order, each once, until none waited or it had no room for one;
-- so many are gone
pub record Drains
    {A P : Type 0}
    (hands : P → P → PortCall → Type 0)
    (old_port new_port : P)
    (old new : PortQueue A)
    (old_account new_account : Account)
    (gone : ℕ)
    : Type 0 where
  pub between : P
  pub handed_over : HandsOver hands old_port between old.waiting.items new.waiting.items old_account new_account gone
  pub ends : IsEmptied between new_port new ⊎ IsBlocked hands between new_port new

-- The fates of the packets that are given to an outbox, one by one (ours).
use Rattle.std.specs.Prelude.{◌≡◌, ◌≢◌, ⊤, ℕ, ◌==◌, List, [], ◌∷◌, ◌++◌, Option, Some, None, Err, if◌then◌else◌}
use Rattle.std.specs.Prelude.{slice_get}
use Rattle.std.specs.List.{AllByRecursion}
use Rattle.roam_admission.specs.declared.datagram.Out.{Out}
use Rattle.roam_port.specs.Accounts.{accounted, after_loss, after_put}
use Rattle.roam_port.specs.Outbox.{waiting_of}
use Rattle.roam_port.specs.Port.{MakesAll, PortCall, send_call}
use Rattle.roam_port.specs.PortQueue.{Handed}
use Rattle.roam_port.specs.Sockets.{socket_number}
use Rattle.roam_port.specs.declared.account.Account.{Account}
use Rattle.roam_port.specs.declared.outbox.Outbox.{Outbox}
use Rattle.roam_port.specs.declared.port.SendFault.TheVariants as fault
use Rattle.roam_port.specs.declared.port_queue.PortQueue.{PortQueue}

-- one thing that becomes of a packet
pub data Fate (A : Type 0) : Type 0 where
  -- it was given, and waits behind those of its port
  waits : Out A → Fate A
  -- it was given where as many waited for its port as may, and is lost
  finds_no_place : Out A → Fate A
  -- it waited for the port of this number, was handed to it, and waits no more: it is sent, or lost by what the port
  -- answered
  goes : ℕ → Handed A → Fate A
  -- it waited for the port of this number and was handed to it, which had no room for it: it waits on
  waits_on : ℕ → Out A → Fate A

abbrev pub given_one : {A : Type 0} → Fate A → List (Out A)
given_one (waits out) = out ∷ []
given_one (finds_no_place out) = out ∷ []
given_one (goes socket h) = []
given_one (waits_on socket out) = []

-- the packets that were given, in order
abbrev pub given_of : {A : Type 0} → List (Fate A) → List (Out A)
given_of [] = []
given_of (f ∷ fs) = given_one f ++ given_of fs

abbrev pub waiting_one : {A : Type 0} → ℕ → Fate A → List (Out A)
waiting_one k (waits out) = if socket_number out.from == k then out ∷ [] else []
waiting_one k (finds_no_place out) = []
waiting_one k (goes socket h) = []
waiting_one k (waits_on socket out) = []

-- those of them that were to wait for a port
abbrev pub waiting_by : {A : Type 0} → ℕ → List (Fate A) → List (Out A)
waiting_by k [] = []
waiting_by k (f ∷ fs) = waiting_one k f ++ waiting_by k fs

abbrev pub gone_one : {A : Type 0} → ℕ → Fate A → List (Out A)
gone_one k (waits out) = []
gone_one k (finds_no_place out) = []
gone_one k (goes socket h) = if socket == k then h.out ∷ [] else []
gone_one k (waits_on socket out) = []

-- the packets that were handed to a port and are gone
abbrev pub gone_by : {A : Type 0} → ℕ → List (Fate A) → List (Out A)
gone_by k [] = []
gone_by k (f ∷ fs) = gone_one k f ++ gone_by k fs

abbrev pub calls_one : {A : Type 0} → ℕ → Fate A → List PortCall
calls_one k (waits out) = []
calls_one k (finds_no_place out) = []
calls_one k (goes socket h) =
    if socket == k then send_call h.answer h.out.from h.out.to h.out.bytes ∷ [] else []
calls_one k (waits_on socket out) =
    if socket == k then send_call (Err fault.WouldBlock) out.from out.to out.bytes ∷ [] else []

-- the sends by which a port was handed them, with its answers
abbrev pub calls_by : {A : Type 0} → ℕ → List (Fate A) → List PortCall
calls_by k [] = []
calls_by k (f ∷ fs) = calls_one k f ++ calls_by k fs

abbrev pub account_one : {A : Type 0} → Account → Fate A → Account
account_one account (waits out) = after_put account
account_one account (finds_no_place out) = after_loss account
account_one account (goes socket h) = accounted account h.answer
account_one account (waits_on socket out) = account

-- the account after all that
abbrev pub account_by : {A : Type 0} → Account → List (Fate A) → Account
account_by account [] = account
account_by account (f ∷ fs) = account_by (account_one account f) fs

-- a packet for which its port had no room isn't gone
abbrev pub IsFate : {A : Type 0} → Fate A → Type 0
IsFate (waits out) = ⊤
IsFate (finds_no_place out) = ⊤
IsFate (goes socket h) = h.answer ≢ Err fault.WouldBlock
IsFate (waits_on socket out) = ⊤

-- so it is of queues and an account
pub record BecomesOf {A : Type 0} (given : List (Out A)) (old new : List (PortQueue A))
    (old_account new_account : Account) : Type 0 where
  pub fates : List (Fate A)
  pub these : given_of fates ≡ given
  pub each : AllByRecursion IsFate fates
  pub in_order : (k : ℕ) →
      waiting_of (slice_get old k) ++ waiting_by k fates ≡ gone_by k fates ++ waiting_of (slice_get new k)
  pub counted : new_account ≡ account_by old_account fates

abbrev pub Becomes : {A : Type 0} → List (Out A) → Outbox A → Outbox A → Type 0
Becomes given old new = BecomesOf given old.queues.items new.queues.items old.account new.account

-- just these sends were made at a port, if it is there
abbrev pub PortMakes : {P : Type 0} → (P → P → PortCall → Type 0) → Option P → Option P → List PortCall → Type 0
PortMakes hands None after calls = (after ≡ None) × (calls ≡ [])
PortMakes {P} hands (Some port) after calls = (next : P) × (after ≡ Some next) × MakesAll hands port next calls

-- and of ports
pub record BecomesAt
    {A P : Type 0}
    (hands : P → P → PortCall → Type 0)
    (given : List (Out A))
    (old_ports new_ports : List P)
    (old new : List (PortQueue A))
    (old_account new_account : Account)
    : Type 0 where
  pub become : BecomesOf given old new old_account new_account
  pub made : (k : ℕ) →
      PortMakes hands (slice_get old_ports k) (slice_get new_ports k) (calls_by k become.fates)

-- ## Packets given, gone and waiting
-- Of each port: those that waited, and behind them those that were given for it and found a place, are those that were
-- handed to it and are gone, and behind these those that wait now, each once and in order. By just these sends, each
-- from its place, to its destination and with its octets, were they handed to the port: one for each that is gone, and
-- one for each time that it had no room for the oldest. A packet that found no place is counted as lost; one that is
-- gone is counted as sent, or as lost by what its port answered.
-- Source: ours
-- Rules out: a packet that is lost without a count; one that leaves twice, out of order or by another port; one that
-- nobody gave
-- Stands in: `roam_port` `Fates.antt`: `BecomesOf`, `BecomesAt`, `GoesOrWaits`; `Outbox::send_all`, `put_sending`
--
abbrev pub GoesOrWaits :
    {A P : Type 0} → (P → P → PortCall → Type 0) → List (Out A) → List P → List P → Outbox A → Outbox A → Type 0
GoesOrWaits hands given old_ports new_ports old new =
    BecomesAt hands given old_ports new_ports old.queues.items new.queues.items old.account new.account

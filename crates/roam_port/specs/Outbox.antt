-- The packets of a thread that are to leave: those that wait for each port, and those that are lost (ours).
use Rattle.std.specs.Prelude.{◌≡◌, ◌≢◌, ◌⊎◌, ℕ, List, [], length, Bool, true, Option, Some, None, option_map, slice_get}
use Rattle.roam_admission.specs.declared.datagram.Out.{Out}
use Rattle.roam_port.specs.Accounts.{after_loss, after_put}
use Rattle.roam_port.specs.Port.{PortCall}
use Rattle.roam_port.specs.PortQueue.{is_idle}
use Rattle.roam_port.specs.Queues.{AtPort, IsBehind, IsListedAgain, SendsAlong, SendsAt, none_sent}
use Rattle.roam_port.specs.Sockets.{socket_number}
use Rattle.roam_port.specs.declared.account.Account.{Account}
use Rattle.roam_port.specs.declared.outbox.Outbox.{Outbox}
use Rattle.roam_port.specs.declared.port_queue.PortQueue.{PortQueue}
use Rattle.roam_port.specs.declared.port_queue.Standing.{Standing}
use Rattle.roam_port.specs.declared.port_queue.Standing.TheVariants as standing
use Rattle.roam_port.specs.declared.sent.Sent.{Sent}

-- ## Outbox
-- The packets of a thread that wait, each port's apart, the oldest first. One that is put stands behind those of its
-- port, and no other port's change; or as many wait for that very port as may (its share), and it is lost and
-- counted.
-- Source: ours
-- Rules out: a port without room that costs another one's packets; a packet that neither waits nor left nor is
-- counted
-- Stands in: `roam_port` `Outbox.antt`: `Puts`, `IsPut`, `IsLostBehind`, `IsFullAt`; `Queues.antt`: `AtPort`,
-- `IsBehind`; `Outbox::put`
--
-- how many ports there are
abbrev pub port_count : {A : Type 0} → Outbox A → ℕ
port_count outbox = length outbox.queues.items

-- what became of the packets that were put so far
abbrev pub account_of : {A : Type 0} → Outbox A → Account
account_of outbox = outbox.account

-- the same, as it was when it was asked for last
abbrev pub told_of : {A : Type 0} → Outbox A → Account
told_of outbox = outbox.told

-- how the packets stand that wait for a port
abbrev pub standing_at : {A : Type 0} → Outbox A → ℕ → Option Standing
standing_at outbox socket = option_map (λ q. q.standing) (slice_get outbox.queues.items socket)

abbrev pub idle_of : {A : Type 0} → Option (PortQueue A) → Bool
idle_of None = true
idle_of (Some q) = is_idle q.standing

-- no packet waits for a port
abbrev pub is_idle_at : {A : Type 0} → Outbox A → ℕ → Bool
is_idle_at outbox socket = idle_of (slice_get outbox.queues.items socket)

abbrev pub waiting_of : {A : Type 0} → Option (PortQueue A) → List (Out A)
waiting_of None = []
waiting_of (Some q) = q.waiting.items

-- the packets that wait for a port, the oldest first
abbrev pub waits_at : {A : Type 0} → Outbox A → ℕ → List (Out A)
waits_at outbox socket = waiting_of (slice_get outbox.queues.items socket)

abbrev pub share_in : {A : Type 0} → Option (PortQueue A) → ℕ
share_in None = 0
share_in (Some q) = q.share

-- how many packets may wait for a port; none for one that isn't there
abbrev pub share_at : {A : Type 0} → Outbox A → ℕ → ℕ
share_at outbox socket = share_in (slice_get outbox.queues.items socket)

-- as many packets wait for a port as may
abbrev pub IsFullAt : {A : Type 0} → Outbox A → ℕ → Type 0
IsFullAt outbox socket = length (waits_at outbox socket) ≡ share_at outbox socket

-- a packet was put behind those that wait for its port, and counted
pub record IsPut {A : Type 0} (out : Out A) (old new : Outbox A) : Type 0 where
  pub behind : AtPort (IsBehind out) old.queues.items new.queues.items (socket_number out.from)
  pub counted_once : new.account ≡ after_put old.account

-- as many packets waited for its port as may: it is lost, and counted. No other port's packets have a part in that
pub record IsLostBehind {A : Type 0} (out : Out A) (old new : Outbox A) : Type 0 where
  pub full : IsFullAt old (socket_number out.from)
  pub as_before : new.queues ≡ old.queues
  pub counted_once : new.account ≡ after_loss old.account

abbrev pub Puts : {A : Type 0} → Out A → Outbox A → Outbox A → Type 0
Puts out old new = IsPut out old new ⊎ IsLostBehind out old new

-- what waited for the port that was listed last was handed to it, and it is listed no more
pub record SendsLast
    {A P : Type 0}
    (hands : P → P → PortCall → Type 0)
    (old_ports new_ports : List P)
    (old new : Outbox A)
    (sent : Sent)
    : Type 0 where
  pub socket : ℕ
  pub sends : SendsAt hands socket old_ports new_ports old.queues.items new.queues.items old.account new.account sent

-- for each port for which packets were listed, what waited was handed to it, one port after another; what waits still
-- stands aside
pub record SendsAll
    {A P : Type 0}
    (hands : P → P → PortCall → Type 0)
    (old_ports new_ports : List P)
    (old new : Outbox A)
    (sent : Sent)
    : Type 0 where
  pub sockets : List ℕ
  pub along : SendsAlong hands sockets old_ports new_ports old.queues.items new.queues.items
      old.account new.account sent
  pub none_listed : (k : ℕ) → standing_at new k ≢ Some standing.Listed

-- a packet was put, where its port's share was full after what waited was sent
pub record PutsSending
    {A P : Type 0}
    (hands : P → P → PortCall → Type 0)
    (out : Out A)
    (old_ports new_ports : List P)
    (old new : Outbox A)
    (sent : Sent)
    : Type 0 where
  pub between : Outbox A
  pub sends : SendsAll hands old_ports new_ports old between sent
      ⊎ ((new_ports ≡ old_ports) × (between ≡ old) × (sent ≡ none_sent))
  pub puts : Puts out between new

-- where packets stood aside for a port, they are listed again; nothing else changes
pub record IsTriedAgain {A : Type 0} (socket : ℕ) (old new : Outbox A) : Type 0 where
  pub listed : AtPort IsListedAgain old.queues.items new.queues.items socket
      ⊎ ((standing_at old socket ≢ Some standing.Aside) × (new.queues ≡ old.queues))
  pub none_counted : new.account ≡ old.account

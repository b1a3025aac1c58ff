-- The packets that wait for each port, in the order of the sockets' numbers, and what is sent of them (ours).
use Rattle.std.specs.Prelude.{◌≡◌, ◌≢◌, ◌⊎◌, ⊤, ℕ, ◌+◌, ◌-◌, ◌^◌, min, List, [], ◌∷◌, ◌++◌, false, ◌||◌}
use Rattle.std.specs.Prelude.{length, Some, slice_get, slice_set}
use Rattle.std.specs.List.{AllByRecursion}
use Rattle.roam_admission.specs.declared.datagram.Out.{Out}
use Rattle.roam_port.specs.Port.{PortCall}
use Rattle.roam_port.specs.PortQueue.{Drains, is_aside}
use Rattle.roam_port.specs.declared.account.Account.{Account}
use Rattle.roam_port.specs.declared.port_queue.PortQueue.{PortQueue}
use Rattle.roam_port.specs.declared.port_queue.Standing.{Standing}
use Rattle.roam_port.specs.declared.port_queue.Standing.TheVariants as standing
use Rattle.roam_port.specs.declared.sent.Sent.{Sent}

-- a number isn't in a list
abbrev pub IsNotIn : ℕ → List ℕ → Type 0
IsNotIn k [] = ⊤
IsNotIn k (n ∷ ns) = (k ≢ n) × IsNotIn k ns

abbrev pub listed_one : Standing → ℕ
listed_one standing.Listed = 1
listed_one standing.Idle = 0
listed_one standing.Aside = 0

-- for how many ports packets are listed
abbrev pub count_listed : {A : Type 0} → List (PortQueue A) → ℕ
count_listed [] = 0
count_listed (q ∷ qs) = listed_one q.standing + count_listed qs

-- how many packets wait, for all ports
abbrev pub count_waiting : {A : Type 0} → List (PortQueue A) → ℕ
count_waiting [] = 0
count_waiting (q ∷ qs) = length q.waiting.items + count_waiting qs

-- each port for which packets are listed is in a list
abbrev pub AreListed : {A : Type 0} → List (PortQueue A) → List ℕ → Type 0
AreListed {A} queues sockets =
    (k : ℕ) (q : PortQueue A) → slice_get queues k ≡ Some q → q.standing ≡ standing.Listed → IsNotIn k sockets → ⊥

-- nothing waits, and so many packets may
pub record IsUnused {A : Type 0} (share : ℕ) (queue : PortQueue A) : Type 0 where
  pub none : queue.waiting.items ≡ []
  pub idle : queue.standing ≡ standing.Idle
  pub share_is : queue.share ≡ share

-- further ports came in behind, for each of which so many packets may wait
pub record AreMore {A : Type 0} (share : ℕ) (old new : List (PortQueue A)) : Type 0 where
  pub more : List (PortQueue A)
  pub behind : new ≡ old ++ more
  pub unused : AllByRecursion (IsUnused share) more

-- what waits for one port changed so, and nothing else did
pub record AtPort {X : Type 0} (Becomes : X → X → Type 0) (old new : List X) (socket : ℕ) : Type 0 where
  pub before : X
  pub before_is : slice_get old socket ≡ Some before
  pub after : X
  pub becomes : Becomes before after
  pub others_stay : new ≡ slice_set old socket after

-- a packet waits behind those that waited
pub record IsBehind {A : Type 0} (out : Out A) (old new : PortQueue A) : Type 0 where
  pub behind : new.waiting.items ≡ old.waiting.items ++ out ∷ []
  pub share_stays : new.share ≡ old.share

-- what waited for a port was handed to it, and nothing else was; it may have blocked
pub record SendsOne
    {A P : Type 0}
    (hands : P → P → PortCall → Type 0)
    (socket : ℕ)
    (old_ports new_ports : List P)
    (old new : List (PortQueue A))
    (old_account new_account : Account)
    (sent : Sent)
    : Type 0 where
  pub queue : PortQueue A
  pub queue_after : PortQueue A
  pub port : P
  pub port_after : P
  pub queue_is : slice_get old socket ≡ Some queue
  pub listed : queue.standing ≡ standing.Listed
  pub port_is : slice_get old_ports socket ≡ Some port
  pub drains : Drains hands port port_after queue queue_after old_account new_account sent.gone
  pub share_stays : queue_after.share ≡ queue.share
  pub blocked : sent.is_blocked ≡ is_aside queue_after.standing
  pub other_queues_stay : new ≡ slice_set old socket queue_after
  pub other_ports_stay : new_ports ≡ slice_set old_ports socket port_after

-- nothing is listed for a port, and nothing was handed on
pub record IsPassedOver
    {A P : Type 0}
    (socket : ℕ)
    (old_ports new_ports : List P)
    (old new : List (PortQueue A))
    (old_account new_account : Account)
    (sent : Sent)
    : Type 0 where
  pub not_listed : (q : PortQueue A) → slice_get old socket ≡ Some q → q.standing ≢ standing.Listed
  pub ports_stay : new_ports ≡ old_ports
  pub queues_stay : new ≡ old
  pub none_counted : new_account ≡ old_account
  pub none : sent.gone ≡ 0
  pub none_blocked : sent.is_blocked ≡ false

abbrev pub SendsAt : {A P : Type 0} → (P → P → PortCall → Type 0) → ℕ → List P → List P → List (PortQueue A)
    → List (PortQueue A) → Account → Account → Sent → Type 0
SendsAt hands socket old_ports new_ports old new old_account new_account sent =
    SendsOne hands socket old_ports new_ports old new old_account new_account sent
    ⊎ IsPassedOver socket old_ports new_ports old new old_account new_account sent

abbrev pub none_sent : Sent
none_sent = record { gone = 0; is_blocked = false }

-- what is sent in all: so much more, up to 2^64 - 1, and whether any port blocked
abbrev pub sent_after : Sent → Sent → Sent
sent_after before more = record {
  gone = min (2 ^ 64 - 1) (before.gone + more.gone);
  is_blocked = before.is_blocked || more.is_blocked;
}

-- what waited for these ports was handed to them, one port after another, of which the last stands first
abbrev pub SendsAlong : {A P : Type 0} → (P → P → PortCall → Type 0) → List ℕ → List P → List P → List (PortQueue A)
    → List (PortQueue A) → Account → Account → Sent → Type 0
SendsAlong hands [] old_ports new_ports old new old_account new_account sent =
    (new_ports ≡ old_ports)
    × (new ≡ old)
    × (new_account ≡ old_account)
    × (sent ≡ none_sent)
SendsAlong {A} {P} hands (socket ∷ before) old_ports new_ports old new old_account new_account sent =
    (ports : List P)
    × (queues : List (PortQueue A))
    × (account : Account)
    × (sent_before : Sent)
    × (more : Sent)
    × SendsAlong hands before old_ports ports old queues old_account account sent_before
    × SendsAt hands socket ports new_ports queues new account new_account more
    × (sent ≡ sent_after sent_before more)

-- what stood aside for a port is listed again
pub record IsListedAgain {A : Type 0} (old new : PortQueue A) : Type 0 where
  pub aside : old.standing ≡ standing.Aside
  pub listed : new.standing ≡ standing.Listed
  pub same_packets : new.waiting.items ≡ old.waiting.items
  pub same_share : new.share ≡ old.share

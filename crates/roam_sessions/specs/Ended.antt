-- The sessions of a table that are open, where others were ended by an Accounting-On and aren't freed yet (ours).
use Rattle.std.specs.Prelude.{◌≡◌, ℕ, ◌+◌, ◌≤◌, ◌&&◌, nat_lt, Bool, List, length, Option, Some, None, option_and_then, if◌then◌else◌}
use Rattle.roam_sessions.specs.Private.Tickets.{all_listed}
use Rattle.roam_sessions.specs.Sessions.{Asked, Session, agrees}
use Rattle.roam_sessions.specs.ShownSessions.{arrayed_nas}
use Rattle.roam_sessions.specs.Stands.{IsSound, session_at, session_count}
use Rattle.roam_sessions.specs.declared.ended.Ended.{Ended}
use Rattle.roam_sessions.specs.declared.table.Table.{Table}

-- what an Accounting-On asked for
abbrev pub ended_asked : Ended → Asked
ended_asked e = record { peer = e.peer; nas = arrayed_nas e.nas; id = None }

-- it ended the session of a ticket: one that was open when it came
abbrev pub is_ended : Ended → ℕ → Session → Bool
is_ended e t s = nat_lt t e.before && agrees (ended_asked e) s

abbrev pub unless_ended : Ended → ℕ → Option Session → Option Session
unless_ended e t None = None
unless_ended e t (Some s) = if is_ended e t s then None else Some s

abbrev pub open_of : Ended → (ℕ → Option Session) → ℕ → Option Session
open_of e F t = unless_ended e t (F t)

-- the open session of a ticket; all of them, the oldest first
abbrev pub open_at : {A : Type 0} → Table A → ℕ → Option Session
open_at c = open_of c.ended (session_at c.chain)

abbrev pub open_sessions : {A : Type 0} → Table A → List Session
open_sessions c = all_listed (open_at c)

-- the open session of a ticket, where it agrees with what is asked
abbrev pub if_agrees : Asked → Session → Option Session
if_agrees q s = if agrees q s then Some s else None

abbrev pub agreeing_of : Asked → (ℕ → Option Session) → ℕ → Option Session
agreeing_of q O t = option_and_then (if_agrees q) (O t)

abbrev pub agreeing_at : {A : Type 0} → Asked → Table A → ℕ → Option Session
agreeing_at q c = agreeing_of q (open_at c)

-- what the tickets of open sessions have
abbrev pub if_there : {X Y : Type 0} → Option Y → Option X → Option X
if_there None o = None
if_there (Some y) o = o

abbrev pub where_open : {X Y : Type 0} → (ℕ → Option Y) → (ℕ → Option X) → ℕ → Option X
where_open O f t = if_there (O t) (f t)

-- how many open sessions a ticket has, if there is one
abbrev pub some_count : {X : Type 0} → Option X → ℕ
some_count None = 0
some_count (Some x) = 1

abbrev pub open_count : {X : Type 0} → (ℕ → Option X) → Option ℕ → ℕ
open_count O None = 0
open_count O (Some t) = some_count (O t)

-- the table's rows fit each other; an On came before the tickets that are next, and so many rows aren't freed yet
pub record IsTable {A : Type 0} (c : Table A) : Type 0 where
  pub chain : IsSound c.chain
  pub before : c.ended.before ≤ c.chain.next
  pub left : length (open_sessions c) + c.left ≡ session_count c.chain

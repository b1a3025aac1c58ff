-- Laws of the ledger (ours). Each is what a function of `laws` ensures.
use Rattle.std.specs.Prelude.{◌≡◌, ◌≢◌, ℕ, ◌<◌, Bool, true, false, List, []}
use Rattle.roam_wire.specs.Packet.{Attribute}
use Rattle.roam_sessions.specs.Sessions.{Asked, Session, opens, closes, closes_all, changed, agrees, applied, count_of_peer, has_session, same_session, IsLedger}

-- no request makes two sessions the same, or more of them than the limit
abbrev pub RequestsKeepTheLedger : Type 0
RequestsKeepTheLedger = (limit : ℕ) (own : Bool) (peer : ℕ) (attributes : List Attribute) (sessions : List Session)
    → IsLedger limit sessions → IsLedger limit (applied limit own peer attributes sessions)

-- a session that was opened is there, unless the limit is 0; one that was there keeps its place
abbrev pub OpenedIsThere : Type 0
OpenedIsThere = (limit : ℕ) (s : Session) (sessions : List Session)
    → 0 < limit → has_session s (changed limit (opens s) sessions) ≡ true

abbrev pub OpenedTwiceIsOpenedOnce : Type 0
OpenedTwiceIsOpenedOnce = (limit : ℕ) (s : Session) (sessions : List Session)
    → changed limit (opens s) (changed limit (opens s) sessions) ≡ changed limit (opens s) sessions

-- a session makes way for one of another peer only where its own peer has more sessions than that one
abbrev pub MoreMakesWay : Type 0
MoreMakesWay = (limit : ℕ) (s other : Session) (sessions : List Session)
    → has_session other sessions ≡ true → has_session other (changed limit (opens s) sessions) ≡ false
    → other.peer ≢ s.peer → count_of_peer s.peer sessions < count_of_peer other.peer sessions

-- a session that was closed is gone, and the others stay
abbrev pub ClosedIsGone : Type 0
ClosedIsGone = (limit : ℕ) (s : Session) (sessions : List Session)
    → has_session s (changed limit (closes s) sessions) ≡ false

abbrev pub OthersStayOpen : Type 0
OthersStayOpen = (limit : ℕ) (s other : Session) (sessions : List Session)
    → same_session other s ≡ false
    → has_session other (changed limit (closes s) sessions) ≡ has_session other sessions

-- where all sessions that agree are closed, none of them is left, and the others stay: so do those of other peers
abbrev pub NoneThatAgreesIsLeft : Type 0
NoneThatAgreesIsLeft = (limit : ℕ) (asked : Asked) (s : Session) (sessions : List Session) → agrees asked s ≡ true
    → has_session s (changed limit (closes_all asked) sessions) ≡ false

abbrev pub OthersThanTheseStay : Type 0
OthersThanTheseStay = (limit : ℕ) (asked : Asked) (s : Session) (sessions : List Session) → agrees asked s ≡ false
    → has_session s (changed limit (closes_all asked) sessions) ≡ has_session s sessions

abbrev pub OtherPeersSessionsStay : Type 0
OtherPeersSessionsStay = (limit : ℕ) (asked : Asked) (s : Session) (sessions : List Session) → s.peer ≢ asked.peer
    → has_session s (changed limit (closes_all asked) sessions) ≡ has_session s sessions

-- a ledger with a limit of 0 holds no session
abbrev pub LimitOfNoneHoldsNone : Type 0
LimitOfNoneHoldsNone = (sessions : List Session) → IsLedger 0 sessions → sessions ≡ []

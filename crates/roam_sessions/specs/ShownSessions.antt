-- The code's names of an access server, its session table and the table's changes, as they are seen.
use Rattle.std.specs.Prelude.{ℕ, ◌<◌, List, Option, None, option_map}
use Rattle.std.specs.Borrow.{Bor}
use Rattle.roam_admission.specs.declared.nas.NasName.{NasName}
use Rattle.roam_sessions.specs.Kept.{kept_session, shown_nas, shown_session}
use Rattle.roam_sessions.specs.Sessions.{Nas, Session, LedgerChange, opens, closes, closes_all, nothing}
use Rattle.roam_sessions.specs.Short.{short_octets}
use Rattle.roam_sessions.specs.declared.accounting.Said.{Said}
use Rattle.roam_sessions.specs.declared.accounting.Said.TheVariants as said
use Rattle.roam_sessions.specs.declared.session.NasArray.{NasArray}
use Rattle.roam_sessions.specs.declared.session.SessionArray.{SessionArray}
use Rattle.roam_sessions.specs.declared.session.Change.{Change}
use Rattle.roam_sessions.specs.declared.session.Change.TheVariants as change

-- octets that are looked at
abbrev pub shown_octets : Bor (List ℕ) → List ℕ
shown_octets octets = octets.now

-- the names of an access server: its NAS-IP-Address, and its NAS-Identifier
abbrev pub shown_names : NasName → Option (List ℕ) × Option (List ℕ)
shown_names names = (option_map shown_octets names.ip_address, option_map shown_octets names.identifier)

-- names and a session that are kept without memory
abbrev pub arrayed_nas : NasArray → Nas
arrayed_nas nas = record {
  address = option_map short_octets nas.address;
  identifier = option_map short_octets nas.identifier;
  ipv6 = option_map short_octets nas.ipv6;
}

abbrev pub arrayed_session : SessionArray → Session
arrayed_session s = record { peer = s.peer; nas = arrayed_nas s.nas; id = short_octets s.id }

-- a change that owns its octets
abbrev pub shown_change : {A : Type 0} → Change A → LedgerChange
shown_change (change.Opens new) = opens (kept_session new.session)
shown_change (change.Closes s) = closes (arrayed_session s)
shown_change (change.ClosesAll peer nas) = closes_all (record { peer = peer; nas = arrayed_nas nas; id = None })
shown_change change.Nothing = nothing

-- what a request says, looked at where it lies
abbrev pub said_of : Said → LedgerChange
said_of (said.Opens s) = opens (shown_session s)
said_of (said.Closes s) = closes (shown_session s)
said_of (said.ClosesAll peer nas) = closes_all (record { peer = peer; nas = shown_nas nas; id = None })
said_of said.Nothing = nothing

-- what a contract sees of a ledger: how many sessions it holds at most, the open ones with the
-- oldest first, and for how many more there is room
pub record Ledger : Type 0 where
  pub limit : ℕ
  pub sessions : List Session
  pub spare : ℕ

-- the ledger has room for what a change adds
abbrev pub HasRoomFor : LedgerChange → Ledger → Type 0
HasRoomFor (opens s) ledger = 0 < ledger.spare
HasRoomFor (closes s) ledger = Unit {0}
HasRoomFor (closes_all q) ledger = Unit {0}
HasRoomFor nothing ledger = Unit {0}

-- a change that adds nothing
abbrev pub IsClosing : LedgerChange → Type 0
IsClosing (opens s) = ⊥
IsClosing (closes s) = Unit {0}
IsClosing (closes_all q) = Unit {0}
IsClosing nothing = Unit {0}

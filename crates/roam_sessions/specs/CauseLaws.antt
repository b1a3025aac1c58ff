-- Laws of the causes (ours). Each is what a function of `laws` ensures.
use Rattle.std.specs.Prelude.{◌≡◌, ℕ, ◌≤◌, [], ◌∷◌, true, false, List, Option, Some, None}
use Rattle.roam_wire.specs.Packet.{Attribute}
use Rattle.roam_wire.specs.Attributes.{count_of, first_value}
use Rattle.roam_wire.specs.declared.attribute_type.TheConstants.{ACCT_SESSION_ID, USER_NAME}
use Rattle.roam_conf.specs.Config.{PeerView, RealmView}
use Rattle.roam_sessions.specs.Sessions.{Session, agreeing, nas_in}
use Rattle.roam_crypto.specs.Salted.{is_salted}
use Rattle.roam_sessions.specs.Target.{is_among, target}
use Rattle.roam_sessions.specs.Causes.{cause, names_sessions}

-- in a realm without `own_sessions` a request with a User-Name has the same cause whatever sessions are in the ledger
abbrev pub NamedRequestsNeedNoSession : Type 0
NamedRequestsNeedNoSession = (entry : Option RealmView) (peers : List PeerView) (realm : ℕ) (named : Option ℕ)
    (attributes : List Attribute) (name : List ℕ) (sessions others : List Session)
    → names_sessions entry ≡ false → first_value USER_NAME attributes ≡ Some name
    → cause entry peers realm named attributes sessions ≡ cause entry peers realm named attributes others

-- a request without a cause has a target, which is among the realm's peers, and no salted string
abbrev pub ForwardedHasTarget : Type 0
ForwardedHasTarget = (entry : Option RealmView) (peers : List PeerView) (realm : ℕ) (named : Option ℕ)
    (attributes : List Attribute) (sessions : List Session)
    → cause entry peers realm named attributes sessions ≡ None
    → ((peer : ℕ) × (target peers attributes ≡ Some peer) × (is_among entry peers peer ≡ true))
    × (is_salted attributes ≡ false)

-- a request without a cause that has a User-Name names this realm, and no other
abbrev pub ForwardedNamesTheRealm : Type 0
ForwardedNamesTheRealm = (entry : Option RealmView) (peers : List PeerView) (realm : ℕ) (named : Option ℕ)
    (attributes : List Attribute) (name : List ℕ) (sessions : List Session)
    → first_value USER_NAME attributes ≡ Some name
    → cause entry peers realm named attributes sessions ≡ None → named ≡ Some realm

-- a request has at most one User-Name and just one Acct-Session-Id, and just one session of its target agrees with it
pub record IsOfOneSession (peers : List PeerView) (attributes : List Attribute) (sessions : List Session) : Type 0 where
  pub peer : ℕ
  pub id : List ℕ
  pub session : Session
  pub is_target : target peers attributes ≡ Some peer
  pub one_user : count_of USER_NAME attributes ≤ 1
  pub one_id : count_of ACCT_SESSION_ID attributes ≡ 1
  pub has_id : first_value ACCT_SESSION_ID attributes ≡ Some id
  pub one_session :
      agreeing (record { peer = peer; nas = nas_in attributes; id = Some id }) sessions ≡ session ∷ []

-- in a realm with `own_sessions` a request without a cause is of one session of the realm's own
abbrev pub ForwardedIsOfOneSession : Type 0
ForwardedIsOfOneSession = (entry : Option RealmView) (peers : List PeerView) (realm : ℕ) (named : Option ℕ)
    (attributes : List Attribute) (sessions : List Session)
    → names_sessions entry ≡ true
    → cause entry peers realm named attributes sessions ≡ None → IsOfOneSession peers attributes sessions

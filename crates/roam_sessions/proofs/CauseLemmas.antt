-- Why a request isn't forwarded, by its target.
use Rattle.std.proofs.Common.{◌≡◌, ℕ, ◌≤◌, Bool, true, false, List, [], ◌∷◌, length, Option, Some, None, refl, ap, subst, inl, inr, arith, eqb-true}
use Rattle.std.specs.Prelude.{◌||◌, filter, nat_lt, if◌then◌else◌}
use Rattle.std.specs.Option.{option_or}
use Rattle.std.proofs.lemmas.Bool.{cases_Bool, or_parts}
use Rattle.std.proofs.lemmas.Bool.Decides.{nat_tests}
use Rattle.std.proofs.lemmas.List.Sums.{length-filter}
use Rattle.roam_wire.specs.Packet.{Attribute}
use Rattle.roam_wire.specs.Attributes.{count_of, first_value, has_kind}
use Rattle.roam_wire.specs.declared.attribute_type.TheConstants.{ACCT_SESSION_ID, USER_NAME}
use Rattle.roam_sessions.specs.Sessions.{Session, agreeing, nas_in}
use Rattle.roam_crypto.specs.Salted.{is_salted}
use Rattle.roam_conf.specs.Config.{PeerView, RealmView}
use Rattle.roam_sessions.specs.Target.{among, is_among, target}
use Rattle.roam_sessions.specs.Causes.{cause_at_target, cause_by_count, cause_by_meant, cause_by_name, cause_by_names, cause_by_salt, cause_by_session, cause_by_user, is_realm, meant, meant_with}
use Rattle.roam_sessions.specs.CauseLaws.{IsOfOneSession}
use Rattle.roam_sessions.proofs.TargetLemmas.{kept}

-- with a User-Name the ledger doesn't matter where requests needn't name a session
pub named-at-target : (own : Bool) (realm : ℕ) (named : Option ℕ) (attributes : List Attribute) (name : List ℕ)
    (sessions others : List Session) (at : Option ℕ) → own ≡ false
    → first_value USER_NAME attributes ≡ Some name
    → cause_at_target own realm named attributes sessions at ≡ cause_at_target own realm named attributes others at
named-at-target own realm named attributes name sessions others None free has = refl
named-at-target own realm named attributes name sessions others (Some peer) free has = rw (free, has) refl

later-none : (first later : Option ℕ) → option_or first later ≡ None → later ≡ None
later-none None later h = h
later-none (Some n) later h = absurd (cc)

first-none : (first later : Option ℕ) → option_or first later ≡ None → first ≡ None
first-none None later h = refl
first-none (Some n) later h = absurd (cc)

unsalted : (salted : Bool) (n : ℕ) → (if salted then Some n else None) ≡ None → salted ≡ false
unsalted true n h = absurd (cc)
unsalted false n h = refl

pub forwarded-at-target : (own : Bool) (realm : ℕ) (named : Option ℕ) (attributes : List Attribute)
    (sessions : List Session) (at : Option ℕ) → cause_at_target own realm named attributes sessions at ≡ None
    → ((peer : ℕ) × (at ≡ Some peer)) × (is_salted attributes ≡ false)
forwarded-at-target own realm named attributes sessions None h = absurd (cc)
forwarded-at-target own realm named attributes sessions (Some peer) h = (
  (peer, refl),
  unsalted (is_salted attributes) 401
      (later-none (cause_by_names own realm named peer attributes sessions) (cause_by_salt attributes) h),
)

-- a peer that is among the realm's was found, and is one of them
pub among-found : (entry : Option RealmView) (peers : List PeerView) (at : Option ℕ) (peer : ℕ)
    → among entry peers at ≡ Some peer → (at ≡ Some peer) × (is_among entry peers peer ≡ true)
among-found entry peers None peer h = absurd (cc h)
among-found entry peers (Some found) peer h =
    let both = kept (is_among entry peers found) found peer h in
    (ap (λ (n : ℕ). Some n) both.0, subst (λ (n : ℕ). is_among entry peers n ≡ true) both.0 both.1)

-- without a cause for its name, a request with a User-Name is of the realm
is-own : (realm : ℕ) (named : Option ℕ) → is_realm realm named ≡ true → named ≡ Some realm
is-own realm None h = absurd (cc)
is-own realm (Some other) h = ap (λ (n : ℕ). Some n) (eqb-true other realm h)

passed : (own : Bool) (n : ℕ) → (if own then None else Some n) ≡ None → own ≡ true
passed true n h = refl
passed false n h = absurd (cc)

user-is-own : (realm : ℕ) (named : Option ℕ) (name : List ℕ) → cause_by_user realm named (Some name) ≡ None
    → named ≡ Some realm
user-is-own realm named name h = is-own realm named (passed (is_realm realm named) 502 h)

by-names : (own : Bool) (realm : ℕ) (named : Option ℕ) (peer : ℕ) (attributes : List Attribute) (name : List ℕ)
    (sessions : List Session) → first_value USER_NAME attributes ≡ Some name
    → cause_by_names own realm named peer attributes sessions ≡ None → named ≡ Some realm
by-names true realm named peer attributes name sessions has h =
    let later = later-none (cause_by_count attributes)
    (option_or (cause_by_user realm named (first_value USER_NAME attributes))
    (cause_by_meant (meant peer attributes sessions))) h in
    let user = first-none (cause_by_user realm named (first_value USER_NAME attributes))
    (cause_by_meant (meant peer attributes sessions)) later in
    user-is-own realm named name (subst (λ (o : Option (List ℕ)). cause_by_user realm named o ≡ None) has user)
by-names false realm named peer attributes name sessions has h =
    user-is-own realm named name
    (subst (λ (o : Option (List ℕ)). cause_by_name realm named peer sessions o (first_value ACCT_SESSION_ID attributes)
    ≡ None) has h)

pub realm-at-target : (own : Bool) (realm : ℕ) (named : Option ℕ) (attributes : List Attribute) (name : List ℕ)
    (sessions : List Session) (at : Option ℕ) → first_value USER_NAME attributes ≡ Some name
    → cause_at_target own realm named attributes sessions at ≡ None → named ≡ Some realm
realm-at-target own realm named attributes name sessions None has h = absurd (cc)
realm-at-target own realm named attributes name sessions (Some peer) has h =
    by-names own realm named peer attributes name sessions has
    (first-none (cause_by_names own realm named peer attributes sessions) (cause_by_salt attributes) h)

-- ---- of one session

-- neither stands there twice
not-twice : (a b : Bool) (n : ℕ) → (if a || b then Some n else None) ≡ None → (a || b) ≡ false
not-twice true b n h = absurd (cc)
not-twice false true n h = absurd (cc)
not-twice false false n h = refl

one-at-most : (n : ℕ) → nat_lt 1 n ≡ false → n ≤ 1
one-at-most n h = grind (arith, nat_tests)

-- an attribute that is there is counted
there-kept : (kind : ℕ) (attributes : List Attribute) (value : List ℕ) → first_value kind attributes ≡ Some value
    → 1 ≤ length (filter (has_kind kind) attributes)
there-kept kind [] value is = absurd (cc is)
there-kept kind (a ∷ attributes) value is = elim (cases_Bool (has_kind kind a)) [
  | inl here ↦ rw here (omega arith)
  | inr other ↦ (
      let rest : first_value kind attributes ≡ Some value = rw other at is in
      rw other (there-kept kind attributes value rest))
]

there-counted : (kind : ℕ) (attributes : List Attribute) (value : List ℕ) → first_value kind attributes ≡ Some value
    → 1 ≤ count_of kind attributes
there-counted kind attributes value is =
    let kept_there = there-kept kind attributes value is in
    let same = length-filter (has_kind kind) attributes in
    omega (arith, kept_there, same)

just-one : (xs : List Session) → cause_by_meant xs ≡ None → (s : Session) × (xs ≡ s ∷ [])
just-one [] h = absurd (cc h)
just-one (s ∷ []) h = (s, refl)
just-one (s ∷ t ∷ xs) h = absurd (cc h)

-- a session is meant by its id
record IsMeant (peer : ℕ) (attributes : List Attribute) (sessions : List Session) (o : Option (List ℕ)) (s : Session)
    : Type 0 where
  id : List ℕ
  has : o ≡ Some id
  one : agreeing (record { peer = peer; nas = nas_in attributes; id = Some id }) sessions ≡ s ∷ []

by-id : (peer : ℕ) (attributes : List Attribute) (sessions : List Session) (o : Option (List ℕ)) (s : Session)
    → meant_with peer attributes sessions o ≡ s ∷ [] → IsMeant peer attributes sessions o s
by-id peer attributes sessions None s h = absurd (cc h)
by-id peer attributes sessions (Some id) s h = record { id = id; has = refl; one = h }

pub session-at-target : (peers : List PeerView) (realm : ℕ) (named : Option ℕ) (peer : ℕ)
    (attributes : List Attribute) (sessions : List Session) → target peers attributes ≡ Some peer
    → cause_by_session realm named peer attributes sessions ≡ None → IsOfOneSession peers attributes sessions
session-at-target peers realm named peer attributes sessions at h =
    let counts = or_parts (nat_lt 1 (count_of USER_NAME attributes)) (nat_lt 1 (count_of ACCT_SESSION_ID attributes))
    (not-twice (nat_lt 1 (count_of USER_NAME attributes)) (nat_lt 1 (count_of ACCT_SESSION_ID attributes)) 404
    (first-none (cause_by_count attributes)
    (option_or (cause_by_user realm named (first_value USER_NAME attributes))
    (cause_by_meant (meant peer attributes sessions))) h)) in
    let later = later-none (cause_by_count attributes)
    (option_or (cause_by_user realm named (first_value USER_NAME attributes))
    (cause_by_meant (meant peer attributes sessions))) h in
    let one = just-one (meant peer attributes sessions)
    (later-none (cause_by_user realm named (first_value USER_NAME attributes))
    (cause_by_meant (meant peer attributes sessions)) later) in
    let is = by-id peer attributes sessions (first_value ACCT_SESSION_ID attributes) one.0 one.1 in
    let few = one-at-most (count_of ACCT_SESSION_ID attributes) counts.1 in
    let some = there-counted ACCT_SESSION_ID attributes is.id is.has in
    record {
      peer = peer;
      id = is.id;
      session = one.0;
      is_target = at;
      one_user = one-at-most (count_of USER_NAME attributes) counts.0;
      one_id = omega (arith, few, some);
      has_id = is.has;
      one_session = is.one;
    }

pub own-at-target : (peers : List PeerView) (own : Bool) (realm : ℕ) (named : Option ℕ) (attributes : List Attribute)
    (sessions : List Session) (at : Option ℕ) → own ≡ true
    → ((peer : ℕ) → at ≡ Some peer → target peers attributes ≡ Some peer)
    → cause_at_target own realm named attributes sessions at ≡ None → IsOfOneSession peers attributes sessions
own-at-target peers own realm named attributes sessions None is found h = absurd (cc)
own-at-target peers own realm named attributes sessions (Some peer) is found h =
    session-at-target peers realm named peer attributes sessions (found peer refl)
    (subst (λ (b : Bool). cause_by_names b realm named peer attributes sessions ≡ None) is
    (first-none (cause_by_names own realm named peer attributes sessions) (cause_by_salt attributes) h))

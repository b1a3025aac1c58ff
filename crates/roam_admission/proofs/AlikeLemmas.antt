-- What an arrival gives to one realm: nothing of another one's, and the same where configurations look alike.
use Rattle.std.proofs.Common.{◌≡◌, ℕ, zero, suc, Bool, true, false, List, [], ◌∷◌, length, slice_get, Option, Some, None, option_map, refl, ap, ◌∙◌, inl, inr, arith, sym}
use Rattle.std.specs.Prelude.{◌==◌, ◌&&◌, ◌||◌, not, is_some, if◌then◌else◌, nat_le}
use Rattle.std.proofs.lemmas.Bool.{cases_Bool}
use Rattle.std.proofs.lemmas.Bool.Decides.{nat_tests}
use Rattle.std.specs.Option.{option_and_then}
use Rattle.roam_wire.specs.Packet.{Attribute, Packet}
use Rattle.roam_wire.specs.Attributes.{first_value}
use Rattle.roam_wire.specs.declared.attribute_type.TheConstants.{USER_NAME}
use Rattle.roam_wire.specs.declared.refusal.Refusal.{Refusal}
use Rattle.roam_wire.specs.declared.refusal.Refusal.TheVariants as refusal
use Rattle.roam_crypto.specs.Deciding.{is_well_sealed}
use Rattle.roam_conf.specs.Config.{ConfigView, PeerView}
use Rattle.roam_conf.specs.Lookup.{asker_at, realm_named, peer_with_ip}
use Rattle.roam_conf.specs.Secrets as secrets
use Rattle.roam_conf.specs.declared.accounting.Accounting.{Accounting}
use Rattle.roam_conf.specs.declared.accounting.Accounting.TheVariants.{Forwarded, Answered, Dropped}
use Rattle.roam_address.specs.declared.address.Address.{Address}
use Rattle.roam_address.specs.declared.endpoint.Endpoint.{Endpoint}
use Rattle.roam_conf.specs.declared.place.Place.{Place}
use Rattle.roam_conf.specs.declared.place.Place.TheVariants as place
use Rattle.roam_admission.specs.UserName.{realm_of, realm_part}
use Rattle.roam_admission.specs.Freshness.{is_fresh}
use Rattle.roam_admission.specs.LocalAnswer.{answer_length, local_reject, status_answer, status_code}
use Rattle.roam_admission.specs.LocalReject.{has_bad_password, has_too_many_hops, takes_of}
use Rattle.roam_admission.specs.Shapings.{sent_length}
use Rattle.roam_admission.specs.declared.local_answer.LocalAnswer.TheVariants as local
use Rattle.roam_admission.specs.declared.local_answer.RejectCause.{RejectCause}
use Rattle.roam_admission.specs.Admission.{Arrival, Admission, checked, accounted, accounting_in, by_accounting, job_of, forwarded_for, answered_by, rejected_for, reversed, for_named_realm, request_admission, packet_admission, sent_admission, status_from, is_status_request, is_taken, peer_secret, home_secret, is_rightly_signed, is_rightly_sealed, has_needed_seal, has_few_hops, has_seal, seal_required, has_few_attributes}
use Rattle.roam_admission.specs.declared.job.Side.{Side}
use Rattle.roam_admission.specs.declared.job.Side.TheVariants as side
use Rattle.roam_admission.specs.OwnPart.{own}

-- a datagram that arrived, of its parts
abbrev pub came : Place → Endpoint → List ℕ → Option ℕ → Bool → Arrival
came at from octets seconds kept = record {
  at = at;
  from = from;
  octets = octets;
  seconds = seconds;
  keeps_session = kept;
}

-- what is checked gives the same where what follows does, and nothing where that gives nothing
pub own-checked : (realm : ℕ) (b : Bool) (why : Refusal) (x y : Admission) → own realm x ≡ own realm y →
    own realm (checked b why x) ≡ own realm (checked b why y)
own-checked realm true why x y same = same
own-checked realm false why x y same = refl

pub none-checked : (realm : ℕ) (b : Bool) (why : Refusal) (x : Admission) → own realm x ≡ None →
    own realm (checked b why x) ≡ None
none-checked realm true why x none = none
none-checked realm false why x none = refl

-- a packet of another realm
pub none-given : (realm k : ℕ) (a : Arrival) (s : Side) (p : Packet) (names : Option ℕ) → (k == realm) ≡ false →
    own realm (job_of a s p k names) ≡ None
none-given realm k a s p names differs = rw differs refl

pub none-forwarded : (realm k size : ℕ) (a : Arrival) (s : Side) (p : Packet) (names : Option ℕ)
    → (k == realm) ≡ false → own realm (forwarded_for size a s p k names) ≡ None
none-forwarded realm k size a s p names differs =
    none-checked realm (nat_le size 4096) refusal.TooLong (job_of a s p k names)
    (none-given realm k a s p names differs)

pub none-reversed : (realm k : ℕ) (config : ConfigView) (a : Arrival) (s : Side) (p : Packet) → (k == realm) ≡ false
    → own realm (reversed config a s p k) ≡ None
none-reversed realm k config a s p differs =
    let names : Option ℕ = realm_of config p.attributes in
    none-checked realm (is_fresh config.fresh a.seconds p.attributes) refusal.Stale
    (forwarded_for (sent_length config s p k) a s p k names)
    (none-forwarded realm k (sent_length config s p k) a s p names differs)

-- a Status-Server is no realm's
none-status : (realm : ℕ) (config : ConfigView) (a : Arrival) (s : Side) (p : Packet) →
    own realm (status_from config a s p) ≡ None
none-status realm config a (side.Peer i) p =
    let secret = peer_secret config i in
    none-checked realm (has_few_attributes config.max_attributes p) refusal.TooManyAttributes _
    (none-checked realm (is_well_sealed secret (p.authenticator ∷ []) p) refusal.BadMessageAuthenticator
    (checked (has_seal p) refusal.MissingMessageAuthenticator
    (answered_by (local.Status (status_code a.at)) a (status_answer a.at secret p)))
    (none-checked realm (has_seal p) refusal.MissingMessageAuthenticator
    (answered_by (local.Status (status_code a.at)) a (status_answer a.at secret p)) refl))
none-status realm config a (side.Link l) p = refl
none-status realm config a (side.Home i) p = refl

-- what a packet of a known sender gives, unless it is a Status-Server
abbrev judged : ConfigView → Arrival → Packet → Side → Admission
judged config a p s = checked (is_taken a.at s p.code) refusal.WrongCode (packet_admission config a s p a.at)

-- what a request gives, by what it goes to
abbrev pub asked : List ℕ → Packet → Bool → Option ℕ → Admission → Admission
asked secret p required most further =
    checked (is_rightly_signed secret p) refusal.BadAuthenticator
    (checked (is_rightly_sealed secret p) refusal.BadMessageAuthenticator
    (checked (has_needed_seal required p) refusal.MissingMessageAuthenticator
    (checked (has_few_hops most p) refusal.TooManyHops further)))

-- where it has few attributes
abbrev pub counted : Option ℕ → Packet → Admission → Admission
counted limit p further = checked (has_few_attributes limit p) refusal.TooManyAttributes further

-- a Status-Server's code is taken for nothing else
not_taken : (config : ConfigView) (at : Place) (s : Side) (code : ℕ) → is_status_request config at s code ≡ true →
    is_taken at s code ≡ false
not_taken config (place.Auth nth) (side.Peer i) code is = grind (arith, nat_tests, is)
not_taken config (place.Acct nth) (side.Peer i) code is = grind (arith, nat_tests, is)
not_taken config (place.Auth nth) (side.Link l) code is = refl
not_taken config (place.Acct nth) (side.Link l) code is = refl
not_taken config (place.Auth nth) (side.Home i) code is = refl
not_taken config (place.Acct nth) (side.Home i) code is = refl
not_taken config (place.Out k nth) s code is = absurd (cc is)
not_taken config (place.Reverse k nth) s code is = absurd (cc is)

-- so it gives nothing to a realm, whether it is answered or not
pub sent-own : (realm : ℕ) (config : ConfigView) (a : Arrival) (p : Packet) (s : Side) →
    own realm (sent_admission config a p (Some s)) ≡ own realm (judged config a p s)
sent-own realm config a p s =
    elim (cases_Bool (is_status_request config a.at s p.code)) [
      | inl is ↦ rw (is, not_taken config a.at s p.code is) (none-status realm config a s p)
      | inr not_so ↦ rw not_so refl
    ]

-- no local reject is a realm's
none-rejected : (realm : ℕ) (cause : RejectCause) (secret : List ℕ) (a : Arrival) (p : Packet) →
    own realm (rejected_for cause secret a p) ≡ None
none-rejected realm cause secret a p =
    none-checked realm (nat_le (answer_length p) 4096) refusal.TooLong
    (answered_by (local.Rejected cause) a (local_reject secret p)) refl

-- nor is an Accounting-Request of another realm
none-by : (realm k size : ℕ) (way : Accounting) (secret : List ℕ) (a : Arrival) (s : Side) (p : Packet)
    → (k == realm) ≡ false → own realm (by_accounting size secret a s p k way) ≡ None
none-by realm k size Forwarded secret a s p differs = none-forwarded realm k size a s p (Some k) differs
none-by realm k size Answered secret a s p differs = refl
none-by realm k size Dropped secret a s p differs = refl

pub none-accounted : (realm k : ℕ) (config : ConfigView) (secret : List ℕ) (a : Arrival) (s : Side) (p : Packet)
    → (k == realm) ≡ false → own realm (accounted config secret a s p (Some k)) ≡ None
none-accounted realm k config secret a s p differs =
    let size : ℕ = sent_length config s p k in
    none-checked realm (takes_of config k s) refusal.NotForPeer
    (by_accounting size secret a s p k (accounting_in config k))
    (none-by realm k size (accounting_in config k) secret a s p differs)

-- an Access-Request, by the cause for which it would be rejected, the realm that it asks and the one that it names
abbrev pub access_by :
    RejectCause → ConfigView → List ℕ → Arrival → Side → Packet → Option ℕ → Option ℕ → Option ℕ → Admission
access_by cause config secret a s p most asks named =
    if not (is_some asks) || has_bad_password p || has_too_many_hops most p then rejected_for cause secret a p
    else for_named_realm config a s p named

-- whatever the cause, a local reject is no realm's
own-cause : (realm : ℕ) (one other : RejectCause) (secret : List ℕ) (a : Arrival) (p : Packet) (b : Bool)
    (further : Admission)
    → own realm (if b then rejected_for one secret a p else further)
    ≡ own realm (if b then rejected_for other secret a p else further)
own-cause realm one other secret a p true further =
    none-rejected realm one secret a p ∙ sym (none-rejected realm other secret a p)
own-cause realm one other secret a p false further = refl

pub own-access_by : (realm : ℕ) (one other : RejectCause) (config : ConfigView) (secret : List ℕ) (a : Arrival)
    (s : Side) (p : Packet) (most asks named : Option ℕ)
    → own realm (access_by one config secret a s p most asks named)
    ≡ own realm (access_by other config secret a s p most asks named)
own-access_by realm one other config secret a s p most asks named =
    own-cause realm one other secret a p (not (is_some asks) || has_bad_password p || has_too_many_hops most p)
    (for_named_realm config a s p named)

pub either-none : (realm : ℕ) (b : Bool) (x y : Admission) → own realm x ≡ None → own realm y ≡ None
    → own realm (if b then x else y) ≡ None
either-none realm true x y first second = first
either-none realm false x y first second = second

pub none-access : (realm k : ℕ) (cause : RejectCause) (config : ConfigView) (secret : List ℕ) (a : Arrival) (s : Side)
    (p : Packet) (most asks : Option ℕ) → (k == realm) ≡ false →
    own realm (access_by cause config secret a s p most asks (Some k)) ≡ None
none-access realm k cause config secret a s p most asks differs =
    either-none realm (not (is_some asks) || has_bad_password p || has_too_many_hops most p)
    (rejected_for cause secret a p) (for_named_realm config a s p (Some k)) (none-rejected realm cause secret a p)
    (none-forwarded realm k (sent_length config s p k) a s p (Some k) differs)

-- at another realm's places nothing is the realm's
pub out-none : (realm : ℕ) (config : ConfigView) (k nth : ℕ) (from : Endpoint) (octets : List ℕ) (seconds : Option ℕ)
    (kept : Bool)
    (p : Packet) (s : Option Side) →
    (k == realm) ≡ false
    → own realm
    (sent_admission config (came (place.Out k nth) from octets seconds kept) p s)
    ≡ None
out-none realm config k nth from octets seconds kept p None differs = refl
out-none realm config k nth from octets seconds kept p (Some s) differs =
    let a : Arrival = came (place.Out k nth) from octets seconds kept in
    none-checked realm (is_taken (place.Out k nth) s p.code) refusal.WrongCode (job_of a s p k None)
    (none-given realm k a s p None differs)

pub reverse-none : (realm : ℕ) (config : ConfigView) (k nth : ℕ) (from : Endpoint) (octets : List ℕ)
    (seconds : Option ℕ) (kept : Bool)
    (p : Packet) (o : Option ℕ) →
    (k == realm) ≡ false
    → own realm
    (sent_admission config (came (place.Reverse k nth) from octets seconds kept) p
    (option_map (λ i. side.Home i) o)) ≡ None
reverse-none realm config k nth from octets seconds kept p None differs = refl
reverse-none realm config k nth from octets seconds kept p (Some i) differs =
    let a : Arrival = came (place.Reverse k nth) from octets seconds kept in
    let secret = home_secret config k i in
    none-checked realm (is_taken (place.Reverse k nth) (side.Home i) p.code) refusal.WrongCode
    (request_admission config secret a (side.Home i) p)
    (none-checked realm (has_few_attributes config.max_attributes p) refusal.TooManyAttributes _
    (none-checked realm (is_rightly_signed secret p) refusal.BadAuthenticator _
    (none-checked realm (is_rightly_sealed secret p) refusal.BadMessageAuthenticator _
    (none-checked realm (has_needed_seal (seal_required config (side.Home i) p) p)
    refusal.MissingMessageAuthenticator _
    (none-checked realm (has_few_hops config.max_hops p) refusal.TooManyHops (reversed config a (side.Home i) p k)
    (none-reversed realm k config a (side.Home i) p differs))))))

-- what names a realm has a name
pub not-unnamed : {X Y Z : Type 0} (f : X → Option Y) (g : Y → Option Z) (o : Option X) (z : Z)
    → option_and_then g (option_and_then f o) ≡ Some z → not (is_some o) ≡ false
not-unnamed f g None z is = absurd (cc is)
not-unnamed f g (Some x) z is = refl

pub and-false : (b : Bool) → (b && false) ≡ false
and-false true = refl
and-false false = refl

-- something is at a place of both of two lists that are as long, or of none
pub there-same : {X : Type 0} (own their : List X) (nth : ℕ) (o : Option ℕ) → length own ≡ length their
    → option_and_then (λ x. o) (slice_get own nth) ≡ option_and_then (λ x. o) (slice_get their nth)
there-same [] [] nth o many = refl
there-same [] (t ∷ ts) nth o many = absurd (omega (arith, many))
there-same (x ∷ xs) [] nth o many = absurd (omega (arith, many))
there-same (x ∷ xs) (t ∷ ts) zero o many = refl
there-same (x ∷ xs) (t ∷ ts) (suc n) o many = there-same xs ts n o (omega (arith, many))

-- two configurations have the same peers, the same meaning of each name, and the same limits of attributes and hops
pub record LooksAlike (one other : ConfigView) : Type 0 where
  pub peers : one.peers ≡ other.peers
  pub names : (name : List ℕ) → realm_named one name ≡ realm_named other name
  pub max_attributes : one.max_attributes ≡ other.max_attributes
  pub max_hops : one.max_hops ≡ other.max_hops

module _ (one other : ConfigView) (same : LooksAlike one other) where
  names-same : (o : Option (List ℕ)) → option_and_then (realm_named one) o ≡ option_and_then (realm_named other) o
  names-same None = refl
  names-same (Some name) = same.names name

  pub realm-same : (attributes : List Attribute) → realm_of one attributes ≡ realm_of other attributes
  realm-same attributes = names-same (option_and_then realm_part (first_value USER_NAME attributes))

  pub seal-same : (s : Side) (p : Packet) → seal_required one s p ≡ seal_required other s p
  seal-same (side.Peer i) p = rw same.peers refl
  seal-same (side.Home i) p = refl
  seal-same (side.Link l) p = refl

  pub secret-same : (i : ℕ) → peer_secret one i ≡ peer_secret other i
  secret-same i = ap (λ (ps : List PeerView). secrets.peer_secret ps i) same.peers

  -- and which peer it is, at one of as many own endpoints
  pub asker-found : (own their : List Endpoint) (nth : ℕ) (ip : Address) → length own ≡ length their
      → asker_at own one.peers nth ip ≡ asker_at their other.peers nth ip
  asker-found own their nth ip many =
      ap (λ (ps : List PeerView). asker_at own ps nth ip) same.peers
      ∙ there-same own their nth (peer_with_ip other.peers ip) many

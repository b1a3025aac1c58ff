-- What the broker answers itself, in two configurations that agree on what such answers are made by.
use Rattle.std.proofs.Common.{◌≡◌, ℕ, Bool, true, false, List, Option, Some, None, option_map, refl, sym, ap, ap₂, ◌∙◌}
use Rattle.std.specs.Prelude.{◌==◌, ◌&&◌, ◌||◌, not, is_some, nat_le, Result, Ok, Err, if◌then◌else◌}
use Rattle.roam_wire.specs.Packet.{Packet}
use Rattle.roam_wire.specs.Reading.{reading}
use Rattle.roam_wire.specs.declared.code.TheConstants.{STATUS_SERVER}
use Rattle.roam_wire.specs.declared.packet_size.TheConstants.{MAX_PACKET_LENGTH}
use Rattle.roam_wire.specs.declared.refusal.Refusal.{Refusal}
use Rattle.roam_wire.specs.declared.refusal.Refusal.TheVariants as refusal
use Rattle.roam_conf.specs.Config.{ConfigView, PeerView}
use Rattle.roam_conf.specs.Secrets as secrets
use Rattle.roam_conf.specs.declared.accounting.Accounting.{Accounting}
use Rattle.roam_conf.specs.declared.accounting.Accounting.TheVariants.{Forwarded, Answered, Dropped}
use Rattle.roam_address.specs.declared.endpoint.Endpoint.{Endpoint}
use Rattle.roam_conf.specs.declared.place.Link.{Link}
use Rattle.roam_conf.specs.declared.place.Place.{Place}
use Rattle.roam_conf.specs.declared.place.Place.TheVariants as place
use Rattle.roam_conf.specs.Lookup.{asker_at, link_in, home_in}
use Rattle.roam_admission.specs.UserName.{realm_of}
use Rattle.roam_admission.specs.Freshness.{is_fresh}
use Rattle.roam_admission.specs.LocalAnswer.{accounting_answer, answer_length, local_reject}
use Rattle.roam_admission.specs.LocalReject.{has_bad_password, has_too_many_hops, takes_of, taking}
use Rattle.roam_admission.specs.Shapings.{sent_length}
use Rattle.roam_admission.specs.declared.local_answer.LocalAnswer.TheVariants as local
use Rattle.roam_admission.specs.declared.local_answer.RejectCause.{RejectCause}
use Rattle.roam_admission.specs.RejectCauses.{reject_cause}
use Rattle.roam_admission.specs.Admission.{Arrival, Admission, sender, checked, accounted, accounting_in, answered_by, by_accounting, for_named_realm, is_unnamed, rejected_for, reversed, route_request, job_of, forwarded_for, request_admission, sent_admission, status_admission, status_from, read_admission, admission, is_taken, peer_secret, home_secret, is_rightly_signed, is_rightly_sealed, has_needed_seal, has_few_hops, seal_required, has_few_attributes}
use Rattle.roam_admission.specs.declared.job.Side.{Side}
use Rattle.roam_admission.specs.declared.job.Side.TheVariants as side
use Rattle.roam_admission.specs.OwnPart.{AnswerAlike, OwnAnswersDecided, answered}
use Rattle.roam_admission.proofs.AlikeLemmas.{came, LooksAlike, access_by, asked, asker-found, counted, realm-same, seal-same, secret-same}

-- what is checked is answered nowhere, where what follows isn't
none-checked : (b : Bool) (why : Refusal) (x : Admission) → answered x ≡ None → answered (checked b why x) ≡ None
none-checked true why x none = none
none-checked false why x none = refl

-- and the same where what follows is
answered-checked : (b : Bool) (why : Refusal) (x y : Admission) → answered x ≡ answered y
    → answered (checked b why x) ≡ answered (checked b why y)
answered-checked true why x y same = same
answered-checked false why x y same = refl

answered-either : (b : Bool) (first x y : Admission) → answered x ≡ answered y
    → answered (if b then first else x) ≡ answered (if b then first else y)
answered-either true first x y same = refl
answered-either false first x y same = same

-- whatever the cause, a local reject is the same packet
answered-cause : (one other : RejectCause) (secret : List ℕ) (a : Arrival) (p : Packet) (b : Bool) (x : Admission)
    → answered (if b then rejected_for one secret a p else x)
    ≡ answered (if b then rejected_for other secret a p else x)
answered-cause one other secret a p true x =
    answered-checked (nat_le (answer_length p) MAX_PACKET_LENGTH) refusal.TooLong
    (answered_by (local.Rejected one) a (local_reject secret p))
    (answered_by (local.Rejected other) a (local_reject secret p)) refl
answered-cause one other secret a p false x = refl

answered-asked : (secret : List ℕ) (p : Packet) (required : Bool) (most : Option ℕ) (x y : Admission)
    → answered x ≡ answered y
    → answered (asked secret p required most x) ≡ answered (asked secret p required most y)
answered-asked secret p required most x y is =
    let few : Bool = has_few_hops most p in
    let needed : Bool = has_needed_seal required p in
    let fourth = answered-checked few refusal.TooManyHops x y is in
    let third = answered-checked needed refusal.MissingMessageAuthenticator (checked few refusal.TooManyHops x)
    (checked few refusal.TooManyHops y) fourth in
    let second = answered-checked (is_rightly_sealed secret p) refusal.BadMessageAuthenticator
    (checked needed refusal.MissingMessageAuthenticator (checked few refusal.TooManyHops x))
    (checked needed refusal.MissingMessageAuthenticator (checked few refusal.TooManyHops y)) third in
    answered-checked (is_rightly_signed secret p) refusal.BadAuthenticator
    (checked (is_rightly_sealed secret p) refusal.BadMessageAuthenticator
    (checked needed refusal.MissingMessageAuthenticator (checked few refusal.TooManyHops x)))
    (checked (is_rightly_sealed secret p) refusal.BadMessageAuthenticator
    (checked needed refusal.MissingMessageAuthenticator (checked few refusal.TooManyHops y))) second

-- what is forwarded isn't answered, whatever its size
not-answered : (size : ℕ) (a : Arrival) (s : Side) (p : Packet) (realm : ℕ) (names : Option ℕ)
    → answered (forwarded_for size a s p realm names) ≡ None
not-answered size a s p realm names =
    none-checked (nat_le size MAX_PACKET_LENGTH) refusal.TooLong (job_of a s p realm names) refl

not-reversed : (config : ConfigView) (a : Arrival) (s : Side) (p : Packet) (realm : ℕ)
    → answered (reversed config a s p realm) ≡ None
not-reversed config a s p realm =
    let names : Option ℕ = realm_of config p.attributes in
    none-checked (is_fresh config.fresh a.seconds p.attributes) refusal.Stale
    (forwarded_for (sent_length config s p realm) a s p realm names)
    (not-answered (sent_length config s p realm) a s p realm names)

by-same : (way : Accounting) (m n : ℕ) (secret : List ℕ) (a : Arrival) (s : Side) (p : Packet) (realm : ℕ)
    → answered (by_accounting m secret a s p realm way) ≡ answered (by_accounting n secret a s p realm way)
by-same Forwarded m n secret a s p realm =
    not-answered m a s p realm (Some realm) ∙ sym (not-answered n a s p realm (Some realm))
by-same Answered m n secret a s p realm = refl
by-same Dropped m n secret a s p realm = refl

named-same : (one other : ConfigView) (a : Arrival) (s : Side) (p : Packet) (o : Option ℕ)
    → answered (for_named_realm one a s p o) ≡ answered (for_named_realm other a s p o)
named-same one other a s p None = refl
named-same one other a s p (Some realm) =
    not-answered (sent_length one s p realm) a s p realm (Some realm)
    ∙ sym (not-answered (sent_length other s p realm) a s p realm (Some realm))

-- at a realm's sockets nothing is
out-none : (config : ConfigView) (k nth : ℕ) (from : Endpoint) (octets : List ℕ) (seconds : Option ℕ) (kept : Bool)
    (p : Packet) (s : Option Side)
    → answered (sent_admission config (came (place.Out k nth) from octets seconds kept) p s) ≡ None
out-none config k nth from octets seconds kept p None = refl
out-none config k nth from octets seconds kept p (Some s) =
    let a : Arrival = came (place.Out k nth) from octets seconds kept in
    none-checked (is_taken (place.Out k nth) s p.code) refusal.WrongCode (job_of a s p k None) refl

reverse-none : (config : ConfigView) (k nth : ℕ) (from : Endpoint) (octets : List ℕ) (seconds : Option ℕ) (kept : Bool)
    (p : Packet) (o : Option ℕ)
    → answered
    (sent_admission config (came (place.Reverse k nth) from octets seconds kept) p
    (option_map (λ i. side.Home i) o)) ≡ None
reverse-none config k nth from octets seconds kept p None = refl
reverse-none config k nth from octets seconds kept p (Some i) =
    let a : Arrival = came (place.Reverse k nth) from octets seconds kept in
    let secret = home_secret config k i in
    none-checked (is_taken (place.Reverse k nth) (side.Home i) p.code) refusal.WrongCode
    (request_admission config secret a (side.Home i) p)
    (none-checked (has_few_attributes config.max_attributes p) refusal.TooManyAttributes _
    (none-checked (is_rightly_signed secret p) refusal.BadAuthenticator _
    (none-checked (is_rightly_sealed secret p) refusal.BadMessageAuthenticator _
    (none-checked (has_needed_seal (seal_required config (side.Home i) p) p) refusal.MissingMessageAuthenticator _
    (none-checked (has_few_hops config.max_hops p) refusal.TooManyHops (reversed config a (side.Home i) p k)
    (not-reversed config a (side.Home i) p k))))))

module _ (one other : ConfigView) (same : AnswerAlike one other) where
  alike : LooksAlike one other
  alike = record {
    peers = same.peers;
    names = same.names;
    max_attributes = same.max_attributes;
    max_hops = same.max_hops;
  }

  -- each realm takes the requests of the same senders
  takes-all : (realm : ℕ) (s : Side) → takes_of one realm s ≡ takes_of other realm s
  takes-all realm (side.Peer i) = same.takes realm i
  takes-all realm (side.Link l) = refl
  takes-all realm (side.Home i) = refl

  taking-same : (s : Side) (o : Option ℕ) → taking one s o ≡ taking other s o
  taking-same s None = refl
  taking-same s (Some realm) = ap (λ (b : Bool). if b then Some realm else None) (takes-all realm s)

  accounted-same : (secret : List ℕ) (a : Arrival) (s : Side) (p : Packet) (o : Option ℕ)
      → answered (accounted one secret a s p o) ≡ answered (accounted other secret a s p o)
  accounted-same secret a s p None = refl
  accounted-same secret a s p (Some realm) =
      let m : ℕ = sent_length one s p realm in
      let n : ℕ = sent_length other s p realm in
      let way : Accounting = accounting_in other realm in
      ap₂ (λ (b : Bool) (w : Accounting).
      answered (checked b refusal.NotForPeer (by_accounting m secret a s p realm w)))
      (takes-all realm s) (same.accounting realm)
      ∙ answered-checked (takes_of other realm s) refusal.NotForPeer (by_accounting m secret a s p realm way)
      (by_accounting n secret a s p realm way) (by-same way m n secret a s p realm)

  access-same : (nth : ℕ) (secret : List ℕ) (a : Arrival) (s : Side) (p : Packet)
      → answered (route_request one secret a s p (place.Auth nth))
      ≡ answered (route_request other secret a s p (place.Auth nth))
  access-same nth secret a s p =
      let o : Option ℕ = realm_of other p.attributes in
      let cause : RejectCause = reject_cause one s p in
      let bad : Bool = not (is_some (taking other s o)) || has_bad_password p || has_too_many_hops other.max_hops p in
      ap (λ (n : Option ℕ). answered (access_by cause one secret a s p one.max_hops (taking one s n) n))
      (realm-same one other alike p.attributes)
      ∙ ap (λ (most : Option ℕ). answered (access_by cause one secret a s p most (taking one s o) o)) same.max_hops
      ∙ ap (λ (x : Option ℕ). answered (access_by cause one secret a s p other.max_hops x o)) (taking-same s o)
      ∙ answered-either bad (rejected_for cause secret a p) (for_named_realm one a s p o)
      (for_named_realm other a s p o) (named-same one other a s p o)
      ∙ answered-cause cause (reject_cause other s p) secret a p bad (for_named_realm other a s p o)

  -- what an Accounting-Request gives, by whether unnamed ones are answered
  abbrev account_by : List ℕ → Arrival → Packet → Bool → Admission → Admission
  account_by secret a p answers further =
      if answers && is_unnamed p.attributes then answered_by local.Response a (accounting_answer secret p) else further

  account-same : (nth : ℕ) (secret : List ℕ) (a : Arrival) (s : Side) (p : Packet)
      → answered (route_request one secret a s p (place.Acct nth))
      ≡ answered (route_request other secret a s p (place.Acct nth))
  account-same nth secret a s p =
      let o : Option ℕ = realm_of other p.attributes in
      ap (λ (b : Bool). answered (account_by secret a p b (accounted one secret a s p (realm_of one p.attributes))))
      same.answer_unnamed
      ∙ ap (λ (n : Option ℕ). answered (account_by secret a p other.answer_unnamed (accounted one secret a s p n)))
      (realm-same one other alike p.attributes)
      ∙ answered-either (other.answer_unnamed && is_unnamed p.attributes)
      (answered_by local.Response a (accounting_answer secret p))
      (accounted one secret a s p o) (accounted other secret a s p o) (accounted-same secret a s p o)

  route_request-same : (secret : List ℕ) (a : Arrival) (s : Side) (p : Packet) (at : Place)
      → answered (route_request one secret a s p at) ≡ answered (route_request other secret a s p at)
  route_request-same secret a s p (place.Reverse k nth) =
      not-reversed one a s p k ∙ sym (not-reversed other a s p k)
  route_request-same secret a s p (place.Auth nth) = access-same nth secret a s p
  route_request-same secret a s p (place.Acct nth) = account-same nth secret a s p
  route_request-same secret a s p (place.Out k nth) = account-same nth secret a s p

  request-same : (secret : List ℕ) (a : Arrival) (s : Side) (p : Packet) →
      answered (request_admission one secret a s p) ≡ answered (request_admission other secret a s p)
  request-same secret a s p =
      let required : Bool = seal_required other s p in
      let routed : Admission = route_request one secret a s p a.at in
      let there : Admission = route_request other secret a s p a.at in
      ap (λ (limit : Option ℕ). answered (counted limit p
      (asked secret p (seal_required one s p) one.max_hops routed))) same.max_attributes
      ∙ ap (λ (b : Bool). answered (counted other.max_attributes p (asked secret p b one.max_hops routed)))
      (seal-same one other alike s p)
      ∙ ap (λ (most : Option ℕ). answered (counted other.max_attributes p (asked secret p required most routed)))
      same.max_hops
      ∙ answered-checked (has_few_attributes other.max_attributes p) refusal.TooManyAttributes
      (asked secret p required other.max_hops routed) (asked secret p required other.max_hops there)
      (answered-asked secret p required other.max_hops routed there (route_request-same secret a s p a.at))

  -- a request of a peer
  peer-same : (a : Arrival) (i : ℕ) (p : Packet) →
      answered (request_admission one (peer_secret one i) a (side.Peer i) p)
      ≡ answered (request_admission other (peer_secret other i) a (side.Peer i) p)
  peer-same a i p = rw (secret-same one other alike i) (request-same (peer_secret other i) a (side.Peer i) p)

  -- what answers a Status-Server of a peer
  status-same : (a : Arrival) (i : ℕ) (p : Packet) →
      status_from one a (side.Peer i) p ≡ status_from other a (side.Peer i) p
  status-same a i p =
      ap₂ (λ (most : Option ℕ) (ps : List PeerView). status_admission most (secrets.peer_secret ps i) a p)
      same.max_attributes same.peers

  -- what a peer's packet gives, where its requests are taken
  abbrev judged : Bool → Bool → Bool → Admission → Admission → Admission
  judged answers is_status is_taken_there status request =
      if answers && is_status then status else checked is_taken_there refusal.WrongCode request

  judged-same : (a : Arrival) (i : ℕ) (p : Packet) (is_status is_taken_there : Bool)
      → answered (judged one.status_server is_status is_taken_there (status_from one a (side.Peer i) p)
      (request_admission one (peer_secret one i) a (side.Peer i) p))
      ≡ answered (judged other.status_server is_status is_taken_there (status_from other a (side.Peer i) p)
      (request_admission other (peer_secret other i) a (side.Peer i) p))
  judged-same a i p is_status is_taken_there =
      let x : Admission = request_admission one (peer_secret one i) a (side.Peer i) p in
      let y : Admission = request_admission other (peer_secret other i) a (side.Peer i) p in
      let status : Admission = status_from other a (side.Peer i) p in
      ap (λ (b : Bool). answered (judged b is_status is_taken_there (status_from one a (side.Peer i) p) x))
      same.status_server
      ∙ ap (λ (z : Admission). answered (judged other.status_server is_status is_taken_there z x)) (status-same a i p)
      ∙ answered-either (other.status_server && is_status) status (checked is_taken_there refusal.WrongCode x)
      (checked is_taken_there refusal.WrongCode y)
      (answered-checked is_taken_there refusal.WrongCode x y (peer-same a i p))

  auth-same : (nth : ℕ) (from : Endpoint) (octets : List ℕ) (seconds : Option ℕ) (kept : Bool) (p : Packet)
      (o : Option ℕ) →
      let a : Arrival = came (place.Auth nth) from octets seconds kept in
      answered (sent_admission one a p (option_map (λ i. side.Peer i) o))
      ≡ answered (sent_admission other a p (option_map (λ i. side.Peer i) o))
  auth-same nth from octets seconds kept p None = refl
  auth-same nth from octets seconds kept p (Some i) =
      let a : Arrival = came (place.Auth nth) from octets seconds kept in
      judged-same a i p (p.code == STATUS_SERVER) (is_taken (place.Auth nth) (side.Peer i) p.code)

  acct-same : (nth : ℕ) (from : Endpoint) (octets : List ℕ) (seconds : Option ℕ) (kept : Bool) (p : Packet)
      (o : Option ℕ) →
      let a : Arrival = came (place.Acct nth) from octets seconds kept in
      answered (sent_admission one a p (option_map (λ i. side.Peer i) o))
      ≡ answered (sent_admission other a p (option_map (λ i. side.Peer i) o))
  acct-same nth from octets seconds kept p None = refl
  acct-same nth from octets seconds kept p (Some i) =
      let a : Arrival = came (place.Acct nth) from octets seconds kept in
      judged-same a i p (p.code == STATUS_SERVER) (is_taken (place.Acct nth) (side.Peer i) p.code)

  place-same : (at : Place) (from : Endpoint) (octets : List ℕ) (seconds : Option ℕ) (kept : Bool) (p : Packet) →
      let a : Arrival = came at from octets seconds kept in
      answered (sent_admission one a p (sender one a at)) ≡ answered (sent_admission other a p (sender other a at))
  place-same (place.Auth nth) from octets seconds kept p =
      rw (asker-found one other alike one.auth other.auth nth from.ip same.auth)
      (auth-same nth from octets seconds kept p (asker_at other.auth other.peers nth from.ip))
  place-same (place.Acct nth) from octets seconds kept p =
      rw (asker-found one other alike one.acct other.acct nth from.ip same.acct)
      (acct-same nth from octets seconds kept p (asker_at other.acct other.peers nth from.ip))
  place-same (place.Out k nth) from octets seconds kept p =
      out-none one k nth from octets seconds kept p (option_map (λ l. side.Link l) (link_in one k nth from))
      ∙ sym (out-none other k nth from octets seconds kept p (option_map (λ l. side.Link l) (link_in other k nth from)))
  place-same (place.Reverse k nth) from octets seconds kept p =
      reverse-none one k nth from octets seconds kept p (home_in one k nth from.ip)
      ∙ sym (reverse-none other k nth from octets seconds kept p (home_in other k nth from.ip))

  read-same : (a : Arrival) (read : Result Packet Refusal) →
      answered (read_admission one a read) ≡ answered (read_admission other a read)
  read-same a (Err why) = refl
  read-same a (Ok p) = place-same a.at a.from a.octets a.seconds a.keeps_session p

pub own_answers_decided : OwnAnswersDecided
unfolding admission
own_answers_decided one other a same = read-same one other same a (reading a.octets)

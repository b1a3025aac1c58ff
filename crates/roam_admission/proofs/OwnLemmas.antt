-- What an arrival gives to one realm, in two configurations that have its part in common.
use Rattle.std.proofs.Common.{◌≡◌, ℕ, Bool, false, List, [], Option, Some, None, option_map, refl, sym, ap, ap₂, subst, ◌∙◌, inl, inr}
use Rattle.std.specs.Prelude.{◌==◌, ◌&&◌, ◌||◌, not, is_some, if◌then◌else◌, slice_get, Result, Ok, Err}
use Rattle.std.proofs.lemmas.Bool.{cases_Bool}
use Rattle.std.proofs.lemmas.Bool.Decides.{Decides-eqb}
use Rattle.roam_wire.specs.Packet.{Packet}
use Rattle.roam_wire.specs.Attributes.{first_value}
use Rattle.roam_wire.specs.Reading.{reading}
use Rattle.roam_wire.specs.declared.attribute_type.TheConstants.{USER_NAME}
use Rattle.roam_wire.specs.declared.refusal.Refusal.{Refusal}
use Rattle.roam_wire.specs.declared.refusal.Refusal.TheVariants as refusal
use Rattle.roam_conf.specs.Config.{ConfigView, PeerView, RealmView}
use Rattle.roam_conf.specs.Lookup.{realm_named, link_in, home_in}
use Rattle.roam_conf.specs.Secrets as secrets
use Rattle.std.specs.Option.{option_map_or}
use Rattle.roam_conf.specs.declared.accounting.Accounting.{Accounting}
use Rattle.roam_address.specs.declared.address.Address.{Address}
use Rattle.roam_address.specs.declared.endpoint.Endpoint.{Endpoint}
use Rattle.roam_conf.specs.declared.place.Place.{Place}
use Rattle.roam_conf.specs.declared.place.Place.TheVariants as place
use Rattle.roam_forward.specs.Forwarded.{forwarded_length}
use Rattle.roam_forward.specs.Shaped.{shaped}
use Rattle.roam_admission.specs.UserName.{realm_of, realm_part}
use Rattle.roam_admission.specs.Freshness.{is_fresh}
use Rattle.roam_admission.specs.LocalAnswer.{accounting_answer}
use Rattle.roam_admission.specs.LocalReject.{has_bad_password, has_too_many_hops, takes_of, taking}
use Rattle.roam_admission.specs.Shapings.{sent_length, shaping_between}
use Rattle.roam_admission.specs.declared.local_answer.LocalAnswer.TheVariants as local
use Rattle.roam_admission.specs.declared.local_answer.RejectCause.{RejectCause}
use Rattle.roam_admission.specs.RejectCauses.{reject_cause}
use Rattle.roam_admission.specs.Admission.{Arrival, Admission, sender, checked, accounted, accounting_in, by_accounting, is_answered_unnamed, is_unnamed, forwarded_for, answered_by, rejected_for, reversed, route_request, request_admission, packet_admission, sent_admission, read_admission, admission, is_taken, peer_secret, home_secret, is_rightly_signed, is_rightly_sealed, has_needed_seal, has_few_hops, seal_required, has_few_attributes}
use Rattle.roam_admission.specs.declared.job.Side.{Side}
use Rattle.roam_admission.specs.declared.job.Side.TheVariants as side
use Rattle.roam_admission.specs.OwnPart.{own, HaveSamePart, OwnPartDecides}
use Rattle.roam_admission.proofs.AlikeLemmas.{came, LooksAlike, access_by, and-false, asked, asker-found, either-none, none-access, none-accounted, none-reversed, not-unnamed, own-checked, realm-same, seal-same, secret-same, sent-own, out-none, reverse-none, counted, own-access_by}

module _ (one other : ConfigView) (realm : ℕ) (same : HaveSamePart one other realm) where
  alike : LooksAlike one other
  alike = record {
    peers = same.peers;
    names = same.names;
    max_attributes = same.max_attributes;
    max_hops = same.max_hops;
  }

  -- the realm takes the requests of the same senders
  takes-same : (s : Side) → takes_of one realm s ≡ takes_of other realm s
  takes-same (side.Peer i) = rw (same.entry, same.peers) refl
  takes-same (side.Link l) = refl
  takes-same (side.Home i) = refl

  accounting-same : accounting_in one realm ≡ accounting_in other realm
  accounting-same = rw same.entry refl

  -- and is sent as many octets
  sent-same : (s : Side) (p : Packet) → sent_length one s p realm ≡ sent_length other s p realm
  sent-same (side.Peer i) p =
      ap₂ (λ (ps : List PeerView) (r : Option RealmView).
      forwarded_length (shaped (shaping_between (slice_get ps i) r) p)) same.peers same.entry
  sent-same (side.Link l) p = refl
  sent-same (side.Home i) p = refl

  -- what an Access-Request gives that names a realm, by whether that takes it and how many octets it is sent
  abbrev access_to : RejectCause → List ℕ → Arrival → Side → Packet → Option ℕ → ℕ → Bool → ℕ → Admission
  access_to cause secret a s p most k takes size =
      if not (is_some (if takes then Some k else None)) || has_bad_password p || has_too_many_hops most p
      then rejected_for cause secret a p
      else forwarded_for size a s p k (Some k)

  own-access-of : (cause : RejectCause) (secret : List ℕ) (a : Arrival) (s : Side) (p : Packet) (most o : Option ℕ)
      → own realm (access_by cause one secret a s p most (taking one s o) o)
      ≡ own realm (access_by cause other secret a s p most (taking other s o) o)
  own-access-of cause secret a s p most None = refl
  own-access-of cause secret a s p most (Some k) =
      elim (cases_Bool (k == realm)) [
        | inl yes' ↦ (
            let here : k ≡ realm = (Decides-eqb k realm).0 yes' in
            let takes : takes_of one k s ≡ takes_of other k s =
            subst (λ (j : ℕ). takes_of one j s ≡ takes_of other j s) (sym here) (takes-same s) in
            let size : sent_length one s p k ≡ sent_length other s p k =
            subst (λ (j : ℕ). sent_length one s p j ≡ sent_length other s p j) (sym here) (sent-same s p) in
            ap₂ (λ (b : Bool) (n : ℕ). own realm (access_to cause secret a s p most k b n)) takes size)
        | inr no' ↦ none-access realm k cause one secret a s p most (taking one s (Some k)) no'
            ∙ sym (none-access realm k cause other secret a s p most (taking other s (Some k)) no')
      ]

  own-access : (nth : ℕ) (secret : List ℕ) (a : Arrival) (s : Side) (p : Packet)
      → own realm (route_request one secret a s p (place.Auth nth))
      ≡ own realm (route_request other secret a s p (place.Auth nth))
  own-access nth secret a s p =
      let o : Option ℕ = realm_of other p.attributes in
      let cause : RejectCause = reject_cause one s p in
      ap (λ (n : Option ℕ). own realm (access_by cause one secret a s p one.max_hops (taking one s n) n))
      (realm-same one other alike p.attributes)
      ∙ ap (λ (most : Option ℕ). own realm (access_by cause one secret a s p most (taking one s o) o)) same.max_hops
      ∙ own-access-of cause secret a s p other.max_hops o
      ∙ own-access_by realm cause (reject_cause other s p) other secret a s p other.max_hops (taking other s o) o

  -- an Accounting-Request that names a realm
  own-accounted : (secret : List ℕ) (a : Arrival) (s : Side) (p : Packet) (k : ℕ)
      → own realm (accounted one secret a s p (Some k)) ≡ own realm (accounted other secret a s p (Some k))
  own-accounted secret a s p k =
      elim (cases_Bool (k == realm)) [
        | inl yes' ↦ (
            let here : k ≡ realm = (Decides-eqb k realm).0 yes' in
            subst (λ (j : ℕ). own realm (accounted one secret a s p (Some j))
            ≡ own realm (accounted other secret a s p (Some j))) (sym here)
            (ap₂ (λ (b : Bool) (way : Accounting). own realm
            (checked b refusal.NotForPeer (by_accounting (sent_length one s p realm) secret a s p realm way)))
            (takes-same s) accounting-same
            ∙ ap (λ (n : ℕ). own realm (checked (takes_of other realm s) refusal.NotForPeer
            (by_accounting n secret a s p realm (accounting_in other realm)))) (sent-same s p)))
        | inr no' ↦ none-accounted realm k one secret a s p no' ∙ sym (none-accounted realm k other secret a s p no')
      ]

  -- or none
  own-account-of : (secret : List ℕ) (a : Arrival) (s : Side) (p : Packet) (answer : Admission) (o : Option ℕ)
      (first second : Bool) → own realm answer ≡ None
      → ((k : ℕ) → o ≡ Some k → (first ≡ false) × (second ≡ false))
      → own realm (if first then answer else accounted one secret a s p o)
      ≡ own realm (if second then answer else accounted other secret a s p o)
  own-account-of secret a s p answer None first second none named =
      either-none realm first answer (accounted one secret a s p None) none refl
      ∙ sym (either-none realm second answer (accounted other secret a s p None) none refl)
  own-account-of secret a s p answer (Some k) first second none named =
      rw ((named k refl).0, (named k refl).1) (own-accounted secret a s p k)

  unnamed-not : (config : ConfigView) (p : Packet) (k : ℕ) → realm_of config p.attributes ≡ Some k
      → is_answered_unnamed config p ≡ false
  unnamed-not config p k is =
      let has : is_unnamed p.attributes ≡ false =
      not-unnamed realm_part (realm_named config) (first_value USER_NAME p.attributes) k is in
      ap (λ (b : Bool). config.answer_unnamed && b) has ∙ and-false config.answer_unnamed

  own-account : (nth : ℕ) (secret : List ℕ) (a : Arrival) (s : Side) (p : Packet)
      → own realm (route_request one secret a s p (place.Acct nth))
      ≡ own realm (route_request other secret a s p (place.Acct nth))
  own-account nth secret a s p =
      let o : Option ℕ = realm_of other p.attributes in
      let same_realm = realm-same one other alike p.attributes in
      let answer : Admission = answered_by local.Response a (accounting_answer secret p) in
      ap (λ (n : Option ℕ). own realm (if is_answered_unnamed one p then answer else accounted one secret a s p n))
      same_realm
      ∙ own-account-of secret a s p answer o (is_answered_unnamed one p) (is_answered_unnamed other p) refl
      (λ k is. (unnamed-not one p k (same_realm ∙ is), unnamed-not other p k is))

  -- a reverse request at a realm's place
  own-reverse : (a : Arrival) (s : Side) (p : Packet) (k : ℕ)
      → own realm (reversed one a s p k) ≡ own realm (reversed other a s p k)
  own-reverse a s p k =
      elim (cases_Bool (k == realm)) [
        | inl yes' ↦ (
            let here : k ≡ realm = (Decides-eqb k realm).0 yes' in
            let size : sent_length one s p k ≡ sent_length other s p k =
            subst (λ (j : ℕ). sent_length one s p j ≡ sent_length other s p j) (sym here) (sent-same s p) in
            ap (λ (most : Option ℕ). own realm (checked (is_fresh most a.seconds p.attributes) refusal.Stale
            (forwarded_for (sent_length one s p k) a s p k (realm_of one p.attributes)))) same.fresh
            ∙ ap₂ (λ (n : ℕ) (o : Option ℕ). own realm
            (checked (is_fresh other.fresh a.seconds p.attributes) refusal.Stale (forwarded_for n a s p k o))) size
            (realm-same one other alike p.attributes))
        | inr no' ↦ none-reversed realm k one a s p no' ∙ sym (none-reversed realm k other a s p no')
      ]

  -- where a request goes
  own-route : (secret : List ℕ) (a : Arrival) (s : Side) (p : Packet) (at : Place)
      → own realm (route_request one secret a s p at) ≡ own realm (route_request other secret a s p at)
  own-route secret a s p (place.Reverse k nth) = own-reverse a s p k
  own-route secret a s p (place.Auth nth) = own-access nth secret a s p
  own-route secret a s p (place.Acct nth) = own-account nth secret a s p
  own-route secret a s p (place.Out k nth) = own-account nth secret a s p

  own-asked : (secret : List ℕ) (p : Packet) (required : Bool) (most : Option ℕ) (x y : Admission)
      → own realm x ≡ own realm y → own realm (asked secret p required most x)
      ≡ own realm (asked secret p required most y)
  own-asked secret p required most x y is =
      let few : Bool = has_few_hops most p in
      let needed : Bool = has_needed_seal required p in
      let fourth = own-checked realm few refusal.TooManyHops x y is in
      let third = own-checked realm needed refusal.MissingMessageAuthenticator (checked few refusal.TooManyHops x)
      (checked few refusal.TooManyHops y) fourth in
      let second = own-checked realm (is_rightly_sealed secret p) refusal.BadMessageAuthenticator
      (checked needed refusal.MissingMessageAuthenticator (checked few refusal.TooManyHops x))
      (checked needed refusal.MissingMessageAuthenticator (checked few refusal.TooManyHops y)) third in
      own-checked realm (is_rightly_signed secret p) refusal.BadAuthenticator
      (checked (is_rightly_sealed secret p) refusal.BadMessageAuthenticator
      (checked needed refusal.MissingMessageAuthenticator (checked few refusal.TooManyHops x)))
      (checked (is_rightly_sealed secret p) refusal.BadMessageAuthenticator
      (checked needed refusal.MissingMessageAuthenticator (checked few refusal.TooManyHops y))) second

  own-request : (secret : List ℕ) (a : Arrival) (s : Side) (p : Packet)
      → own realm (request_admission one secret a s p) ≡ own realm (request_admission other secret a s p)
  own-request secret a s p =
      let required : Bool = seal_required other s p in
      let before : Admission = asked secret p required other.max_hops (route_request one secret a s p a.at) in
      let after : Admission = asked secret p required other.max_hops (route_request other secret a s p a.at) in
      ap (λ (limit : Option ℕ). own realm (counted limit p
      (asked secret p (seal_required one s p) one.max_hops (route_request one secret a s p a.at))))
      same.max_attributes
      ∙ ap (λ (r : Bool). own realm (counted other.max_attributes p
      (asked secret p r one.max_hops (route_request one secret a s p a.at)))) (seal-same one other alike s p)
      ∙ ap (λ (most : Option ℕ). own realm (counted other.max_attributes p
      (asked secret p required most (route_request one secret a s p a.at)))) same.max_hops
      ∙ own-checked realm (has_few_attributes other.max_attributes p) refusal.TooManyAttributes before after
      (own-asked secret p required other.max_hops (route_request one secret a s p a.at)
      (route_request other secret a s p a.at) (own-route secret a s p a.at))

  -- a request of a peer
  own-peer : (a : Arrival) (i : ℕ) (p : Packet)
      → own realm (request_admission one (peer_secret one i) a (side.Peer i) p)
      ≡ own realm (request_admission other (peer_secret other i) a (side.Peer i) p)
  own-peer a i p = rw (secret-same one other alike i) (own-request (peer_secret other i) a (side.Peer i) p)

  -- of a home server of the realm
  own-home : (a : Arrival) (i : ℕ) (p : Packet)
      → own realm (request_admission one (home_secret one realm i) a (side.Home i) p)
      ≡ own realm (request_admission other (home_secret other realm i) a (side.Home i) p)
  own-home a i p =
      let secret : home_secret one realm i ≡ home_secret other realm i =
      ap (λ (r : Option RealmView). option_map_or (λ h. secrets.home_secret h i) r []) same.entry in
      rw secret (own-request (home_secret other realm i) a (side.Home i) p)

  -- a packet at a place that isn't another realm's
  own-packet : (a : Arrival) (s : Side) (p : Packet) (at : Place) → ((k nth : ℕ) → at ≡ place.Reverse k nth → k ≡ realm)
      → own realm (packet_admission one a s p at) ≡ own realm (packet_admission other a s p at)
  own-packet a s p (place.Out k nth) own_place = refl
  own-packet a (side.Peer i) p (place.Auth nth) own_place = own-peer a i p
  own-packet a (side.Peer i) p (place.Acct nth) own_place = own-peer a i p
  own-packet a (side.Peer i) p (place.Reverse k nth) own_place = own-peer a i p
  own-packet a (side.Home i) p (place.Reverse k nth) own_place = rw (own_place k nth refl) (own-home a i p)
  own-packet a (side.Home i) p (place.Auth nth) own_place = refl
  own-packet a (side.Home i) p (place.Acct nth) own_place = refl
  own-packet a (side.Link l) p (place.Auth nth) own_place = refl
  own-packet a (side.Link l) p (place.Acct nth) own_place = refl
  own-packet a (side.Link l) p (place.Reverse k nth) own_place = refl

  -- what the packet gives to the realm there
  known-same : (a : Arrival) (p : Packet) (s : Option Side) → ((k nth : ℕ) → a.at ≡ place.Reverse k nth → k ≡ realm) →
      own realm (sent_admission one a p s) ≡ own realm (sent_admission other a p s)
  known-same a p None own_place = refl
  known-same a p (Some s) own_place =
      sent-own realm one a p s
      ∙ own-checked realm (is_taken a.at s p.code) refusal.WrongCode (packet_admission one a s p a.at)
      (packet_admission other a s p a.at) (own-packet a s p a.at own_place)
      ∙ sym (sent-own realm other a p s)

  -- and who sent it is the same
  link-found : (nth : ℕ) (from : Endpoint) → link_in one realm nth from ≡ link_in other realm nth from
  link-found nth from = rw (same.peers, same.entry) refl

  home-found : (nth : ℕ) (ip : Address) → home_in one realm nth ip ≡ home_in other realm nth ip
  home-found nth ip = rw same.entry refl

  place-same : (at : Place) (from : Endpoint) (octets : List ℕ) (seconds : Option ℕ) (kept : Bool) (p : Packet) →
      let a : Arrival = came at from octets seconds kept in
      own realm (sent_admission one a p (sender one a at)) ≡ own realm (sent_admission other a p (sender other a at))
  place-same (place.Auth nth) from octets seconds kept p =
      let a : Arrival = came (place.Auth nth) from octets seconds kept in
      rw (asker-found one other alike one.auth other.auth nth from.ip same.auth)
      (known-same a p (sender other a (place.Auth nth)) (λ k m is. absurd (cc is)))
  place-same (place.Acct nth) from octets seconds kept p =
      let a : Arrival = came (place.Acct nth) from octets seconds kept in
      rw (asker-found one other alike one.acct other.acct nth from.ip same.acct)
      (known-same a p (sender other a (place.Acct nth)) (λ k m is. absurd (cc is)))
  place-same (place.Out k nth) from octets seconds kept p =
      let a : Arrival = came (place.Out k nth) from octets seconds kept in
      elim (cases_Bool (k == realm)) [
        | inl yes' ↦ (
            let here : k ≡ realm = (Decides-eqb k realm).0 yes' in
            let found_by : sender one a (place.Out k nth) ≡ sender other a (place.Out k nth) =
            subst (λ (j : ℕ). option_map (λ l. side.Link l) (link_in one j nth from)
            ≡ option_map (λ l. side.Link l) (link_in other j nth from)) (sym here)
            (ap (λ o. option_map (λ l. side.Link l) o) (link-found nth from)) in
            known-same a p (sender one a (place.Out k nth)) (λ j m is. absurd (cc is))
            ∙ ap (λ (s : Option Side). own realm (sent_admission other a p s)) found_by)
        | inr no' ↦ out-none realm one k nth from octets seconds kept p (sender one a (place.Out k nth)) no'
            ∙ sym (out-none realm other k nth from octets seconds kept p (sender other a (place.Out k nth)) no')
      ]
  place-same (place.Reverse k nth) from octets seconds kept p =
      let a : Arrival = came (place.Reverse k nth) from octets seconds kept in
      elim (cases_Bool (k == realm)) [
        | inl yes' ↦ (
            let here : k ≡ realm = (Decides-eqb k realm).0 yes' in
            let found_by : sender one a (place.Reverse k nth) ≡ sender other a (place.Reverse k nth) =
            subst (λ (j : ℕ). option_map (λ i. side.Home i) (home_in one j nth from.ip)
            ≡ option_map (λ i. side.Home i) (home_in other j nth from.ip)) (sym here)
            (ap (λ o. option_map (λ i. side.Home i) o) (home-found nth from.ip)) in
            known-same a p (sender one a (place.Reverse k nth)) (λ j m is. (let at : k ≡ j = cc is in sym at ∙ here))
            ∙ ap (λ (s : Option Side). own realm (sent_admission other a p s)) found_by)
        | inr no' ↦ reverse-none realm one k nth from octets seconds kept p (home_in one k nth from.ip) no'
            ∙ sym (reverse-none realm other k nth from octets seconds kept p (home_in other k nth from.ip) no')
      ]

  read-same : (a : Arrival) (read : Result Packet Refusal) →
      own realm (read_admission one a read) ≡ own realm (read_admission other a read)
  read-same a (Err why) = refl
  read-same a (Ok p) = place-same a.at a.from a.octets a.seconds a.keeps_session p

pub own_part_decides : OwnPartDecides
unfolding admission
own_part_decides one other realm a same = read-same one other realm same a (reading a.octets)

-- Two configurations in which the same names mean a realm: an arrival gives the same event to it, but for which
-- other realm a request names.
use Rattle.std.proofs.Common.{◌≡◌, ℕ, Bool, List, [], length, Option, Some, None, option_map, refl, sym, ap, subst, ◌∙◌, inl, inr}
use Rattle.std.specs.Prelude.{◌==◌, ◌||◌, if◌then◌else◌, Result, Ok, Err}
use Rattle.std.specs.Option.{option_and_then, option_map_or}
use Rattle.std.proofs.lemmas.Bool.{cases_Bool}
use Rattle.std.proofs.lemmas.Bool.Decides.{Decides-eqb}
use Rattle.roam_wire.specs.Packet.{Attribute, Packet}
use Rattle.roam_wire.specs.Attributes.{first_value}
use Rattle.roam_wire.specs.Reading.{reading}
use Rattle.roam_wire.specs.declared.attribute_type.TheConstants.{USER_NAME}
use Rattle.roam_wire.specs.declared.refusal.Refusal.{Refusal}
use Rattle.roam_wire.specs.declared.refusal.Refusal.TheVariants as refusal
use Rattle.roam_conf.specs.Config.{ConfigView, PeerView, RealmView}
use Rattle.roam_conf.specs.Lookup.{asker_at, realm_named, peer_with_ip, link_in, home_in}
use Rattle.roam_conf.specs.Secrets as secrets
use Rattle.roam_address.specs.declared.address.Address.{Address}
use Rattle.roam_address.specs.declared.endpoint.Endpoint.{Endpoint}
use Rattle.roam_conf.specs.declared.place.Place.{Place}
use Rattle.roam_conf.specs.declared.place.Place.TheVariants as place
use Rattle.roam_admission.specs.UserName.{realm_of, realm_part}
use Rattle.roam_admission.specs.Freshness.{is_fresh}
use Rattle.roam_admission.specs.LocalAnswer.{accounting_answer}
use Rattle.roam_admission.specs.LocalReject.{has_bad_password, has_too_many_hops, takes_of}
use Rattle.roam_admission.specs.Shapings.{sent_length}
use Rattle.roam_admission.specs.declared.local_answer.LocalAnswer.TheVariants as local
use Rattle.roam_admission.specs.RejectCauses.{reject_cause}
use Rattle.roam_admission.specs.Admission.{Arrival, Admission, sender, checked, forwarded_for, answered_by, accounted, accounting_in, is_answered_unnamed, route_request, request_admission, packet_admission, sent_admission, read_admission, admission, is_taken, peer_secret, home_secret, has_few_attributes, is_rightly_signed, is_rightly_sealed, has_needed_seal, has_few_hops, seal_required}
use Rattle.roam_admission.specs.declared.job.Side.{Side}
use Rattle.roam_admission.specs.declared.job.Side.TheVariants as side
use Rattle.roam_admission.proofs.AlikeLemmas.{came, there-same}
use Rattle.roam_core.specs.Isolation.{is_realm}
use Rattle.roam_core.specs.OwnPart.{AgreeFor}
use Rattle.roam_core.proofs.ToRealmLemmas.{acct-given, auth-given, gives, none-out, none-reverse, own-reversed, same-checked, sent-judged, where_accounted, where_asked}

module _ (one other : ConfigView) (realm now : ℕ) (agree : AgreeFor one other realm) where
  named-alike : (o : Option (List ℕ)) →
      is_realm realm (option_and_then (realm_named one) o)
      ≡ is_realm realm (option_and_then (realm_named other) o)
  named-alike None = refl
  named-alike (Some name) = agree.names name

  realm-alike : (attributes : List Attribute) →
      is_realm realm (realm_of one attributes) ≡ is_realm realm (realm_of other attributes)
  realm-alike attributes = named-alike (option_and_then realm_part (first_value USER_NAME attributes))

  -- what the realm's entry and the peers say
  takes-same : (s : Side) → takes_of one realm s ≡ takes_of other realm s
  takes-same (side.Peer i) = rw (agree.peers, agree.entry) refl
  takes-same (side.Home i) = refl
  takes-same (side.Link l) = refl

  accounting-same : accounting_in one realm ≡ accounting_in other realm
  accounting-same = rw agree.entry refl

  size-same : (s : Side) (p : Packet) → sent_length one s p realm ≡ sent_length other s p realm
  size-same (side.Peer i) p = rw (agree.peers, agree.entry) refl
  size-same (side.Home i) p = refl
  size-same (side.Link l) p = refl

  -- where a request goes that isn't at another realm's place
  acct-same : (secret : List ℕ) (a : Arrival) (s : Side) (p : Packet) →
      gives realm now (if is_answered_unnamed one p then answered_by local.Response a (accounting_answer secret p)
      else accounted one secret a s p (realm_of one p.attributes))
      ≡ gives realm now (if is_answered_unnamed other p then answered_by local.Response a (accounting_answer secret p)
      else accounted other secret a s p (realm_of other p.attributes))
  acct-same secret a s p =
      acct-given realm now one secret a s p
      ∙ (λ i. where_accounted realm now (takes-same s i) (accounting-same i) (size-same s p i) secret a s p
      (realm-alike p.attributes i))
      ∙ sym (acct-given realm now other secret a s p)

  route-same : (secret : List ℕ) (a : Arrival) (s : Side) (p : Packet) (at : Place) →
      ((k nth : ℕ) → at ≡ place.Reverse k nth → k ≡ realm) →
      gives realm now (route_request one secret a s p at) ≡ gives realm now (route_request other secret a s p at)
  route-same secret a s p (place.Reverse k nth) own_place =
      rw (own_place k nth refl)
      ((λ i. gives realm now (checked (is_fresh (agree.fresh i) a.seconds p.attributes) refusal.Stale
      (forwarded_for (size-same s p i) a s p realm (realm_of one p.attributes))))
      ∙ own-reversed realm now other.fresh (sent_length other s p realm) a s p (realm_of one p.attributes)
      (realm_of other p.attributes) (realm-alike p.attributes))
  route-same secret a s p (place.Auth nth) own_place =
      let bad = has_bad_password p in
      auth-given realm now (reject_cause one s p) one secret a s p bad (has_too_many_hops one.max_hops p)
      (realm_of one p.attributes)
      ∙ (λ i. if bad || has_too_many_hops (agree.max_hops i) p then []
      else where_asked realm now (takes-same s i) (size-same s p i) a s p (realm-alike p.attributes i))
      ∙ sym (auth-given realm now (reject_cause other s p) other secret a s p bad (has_too_many_hops other.max_hops p)
      (realm_of other p.attributes))
  route-same secret a s p (place.Acct nth) own_place = acct-same secret a s p
  route-same secret a s p (place.Out k nth) own_place = acct-same secret a s p

  seal-same : (s : Side) (p : Packet) → seal_required one s p ≡ seal_required other s p
  seal-same (side.Peer i) p = rw agree.peers refl
  seal-same (side.Home i) p = refl
  seal-same (side.Link l) p = refl

  -- what a request gives, by what it goes to
  abbrev asked : List ℕ → Packet → Bool → Option ℕ → Admission → Admission
  asked secret p required most further =
      checked (is_rightly_signed secret p) refusal.BadAuthenticator
      (checked (is_rightly_sealed secret p) refusal.BadMessageAuthenticator
      (checked (has_needed_seal required p) refusal.MissingMessageAuthenticator
      (checked (has_few_hops most p) refusal.TooManyHops further)))

  abbrev counted : Option ℕ → Packet → Admission → Admission
  counted most p further = checked (has_few_attributes most p) refusal.TooManyAttributes further

  asked-same : (secret : List ℕ) (p : Packet) (required : Bool) (most : Option ℕ) (x y : Admission) →
      gives realm now x ≡ gives realm now y →
      gives realm now (asked secret p required most x) ≡ gives realm now (asked secret p required most y)
  asked-same secret p required most x y same =
      same-checked realm now (is_rightly_signed secret p) refusal.BadAuthenticator _ _
      (same-checked realm now (is_rightly_sealed secret p) refusal.BadMessageAuthenticator _ _
      (same-checked realm now (has_needed_seal required p) refusal.MissingMessageAuthenticator _ _
      (same-checked realm now (has_few_hops most p) refusal.TooManyHops x y same)))

  request-same : (secret : List ℕ) (a : Arrival) (s : Side) (p : Packet) →
      ((k nth : ℕ) → a.at ≡ place.Reverse k nth → k ≡ realm) →
      gives realm now (request_admission one secret a s p) ≡ gives realm now (request_admission other secret a s p)
  request-same secret a s p own_place =
      let goes = route_request one secret a s p a.at in
      let required = seal_required other s p in
      let few = other.max_attributes in
      ap (λ (most : Option ℕ). gives realm now (counted most p
      (asked secret p (seal_required one s p) one.max_hops goes))) agree.max_attributes
      ∙ ap (λ (b : Bool). gives realm now (counted few p (asked secret p b one.max_hops goes))) (seal-same s p)
      ∙ ap (λ (most : Option ℕ). gives realm now (counted few p (asked secret p required most goes))) agree.max_hops
      ∙ same-checked realm now (has_few_attributes few p) refusal.TooManyAttributes _ _
      (asked-same secret p required other.max_hops goes (route_request other secret a s p a.at)
      (route-same secret a s p a.at own_place))

  -- a request of a peer, and of a home server of the realm
  peer-same : (a : Arrival) (i : ℕ) (p : Packet) → ((k nth : ℕ) → a.at ≡ place.Reverse k nth → k ≡ realm) →
      gives realm now (request_admission one (peer_secret one i) a (side.Peer i) p)
      ≡ gives realm now (request_admission other (peer_secret other i) a (side.Peer i) p)
  peer-same a i p own_place =
      let secret : peer_secret one i ≡ peer_secret other i =
      ap (λ (ps : List PeerView). secrets.peer_secret ps i) agree.peers in
      ap (λ (x : List ℕ). gives realm now (request_admission one x a (side.Peer i) p)) secret
      ∙ request-same (peer_secret other i) a (side.Peer i) p own_place

  home-same : (a : Arrival) (i : ℕ) (p : Packet) → ((k nth : ℕ) → a.at ≡ place.Reverse k nth → k ≡ realm) →
      gives realm now (request_admission one (home_secret one realm i) a (side.Home i) p)
      ≡ gives realm now (request_admission other (home_secret other realm i) a (side.Home i) p)
  home-same a i p own_place =
      let secret : home_secret one realm i ≡ home_secret other realm i =
      ap (λ (r : Option RealmView). option_map_or (λ h. secrets.home_secret h i) r []) agree.entry in
      ap (λ (x : List ℕ). gives realm now (request_admission one x a (side.Home i) p)) secret
      ∙ request-same (home_secret other realm i) a (side.Home i) p own_place

  -- a packet at a place that isn't another realm's
  packet-same : (a : Arrival) (s : Side) (p : Packet) (at : Place) → a.at ≡ at →
      ((k nth : ℕ) → at ≡ place.Reverse k nth → k ≡ realm) →
      gives realm now (packet_admission one a s p at) ≡ gives realm now (packet_admission other a s p at)
  packet-same a s p (place.Out k nth) is own_place = refl
  packet-same a (side.Peer i) p (place.Auth nth) is own_place = peer-same a i p (λ k m here. own_place k m (sym is
      ∙ here))
  packet-same a (side.Peer i) p (place.Acct nth) is own_place = peer-same a i p (λ k m here. own_place k m (sym is
      ∙ here))
  packet-same a (side.Peer i) p (place.Reverse k nth) is own_place = peer-same a i p (λ j m here. own_place j m
      (sym is ∙ here))
  packet-same a (side.Home i) p (place.Reverse k nth) is own_place =
      rw (own_place k nth refl) (home-same a i p (λ j m here. own_place j m (sym is ∙ here)))
  packet-same a (side.Home i) p (place.Auth nth) is own_place = refl
  packet-same a (side.Home i) p (place.Acct nth) is own_place = refl
  packet-same a (side.Link l) p (place.Auth nth) is own_place = refl
  packet-same a (side.Link l) p (place.Acct nth) is own_place = refl
  packet-same a (side.Link l) p (place.Reverse k nth) is own_place = refl

  -- what it gives to the realm there
  known-same : (a : Arrival) (p : Packet) (s : Option Side) → ((k nth : ℕ) → a.at ≡ place.Reverse k nth → k ≡ realm) →
      gives realm now (sent_admission one a p s) ≡ gives realm now (sent_admission other a p s)
  known-same a p None own_place = refl
  known-same a p (Some s) own_place =
      sent-judged realm now one a p s
      ∙ same-checked realm now (is_taken a.at s p.code) refusal.WrongCode (packet_admission one a s p a.at)
      (packet_admission other a s p a.at)
      (packet-same a s p a.at refl own_place)
      ∙ sym (sent-judged realm now other a p s)

  -- and who sent it is the same
  asker-found : (own their : List Endpoint) (nth : ℕ) (ip : Address) → length own ≡ length their
      → asker_at own one.peers nth ip ≡ asker_at their other.peers nth ip
  asker-found own their nth ip many =
      ap (λ (ps : List PeerView). asker_at own ps nth ip) agree.peers
      ∙ there-same own their nth (peer_with_ip other.peers ip) many

  link-found : (nth : ℕ) (from : Endpoint) → link_in one realm nth from ≡ link_in other realm nth from
  link-found nth from = rw (agree.peers, agree.entry) refl

  home-found : (nth : ℕ) (ip : Address) → home_in one realm nth ip ≡ home_in other realm nth ip
  home-found nth ip = rw agree.entry refl

  place-same : (at : Place) (from : Endpoint) (octets : List ℕ) (seconds : Option ℕ) (kept : Bool) (p : Packet) →
      let a : Arrival = came at from octets seconds kept in
      gives realm now (sent_admission one a p (sender one a at))
      ≡ gives realm now (sent_admission other a p (sender other a at))
  place-same (place.Auth nth) from octets seconds kept p =
      let a : Arrival = came (place.Auth nth) from octets seconds kept in
      rw (asker-found one.auth other.auth nth from.ip agree.auth)
      (known-same a p (sender other a (place.Auth nth)) (λ k m is. absurd (cc is)))
  place-same (place.Acct nth) from octets seconds kept p =
      let a : Arrival = came (place.Acct nth) from octets seconds kept in
      rw (asker-found one.acct other.acct nth from.ip agree.acct)
      (known-same a p (sender other a (place.Acct nth)) (λ k m is. absurd (cc is)))
  place-same (place.Out k nth) from octets seconds kept p =
      let a : Arrival = came (place.Out k nth) from octets seconds kept in
      elim (cases_Bool (k == realm)) [
        | inl yes' ↦ (
            let here : k ≡ realm = (Decides-eqb k realm).0 yes' in
            let found_by : sender one a (place.Out k nth) ≡ sender other a (place.Out k nth) =
            subst (λ (j : ℕ). option_map (λ l. side.Link l) (link_in one j nth from)
            ≡ option_map (λ l. side.Link l) (link_in other j nth from)) (sym here)
            (ap (λ o. option_map (λ l. side.Link l) o) (link-found nth from)) in
            known-same a p (sender one a (place.Out k nth)) (λ j m is. absurd (cc is))
            ∙ ap (λ (s : Option Side). gives realm now (sent_admission other a p s)) found_by)
        | inr no' ↦ none-out realm now one k nth from octets seconds kept p (sender one a (place.Out k nth)) no'
            ∙ sym (none-out realm now other k nth from octets seconds kept p (sender other a (place.Out k nth)) no')
      ]
  place-same (place.Reverse k nth) from octets seconds kept p =
      let a : Arrival = came (place.Reverse k nth) from octets seconds kept in
      elim (cases_Bool (k == realm)) [
        | inl yes' ↦ (
            let here : k ≡ realm = (Decides-eqb k realm).0 yes' in
            let found_by : sender one a (place.Reverse k nth) ≡ sender other a (place.Reverse k nth) =
            subst (λ (j : ℕ). option_map (λ i. side.Home i) (home_in one j nth from.ip)
            ≡ option_map (λ i. side.Home i) (home_in other j nth from.ip)) (sym here)
            (ap (λ o. option_map (λ i. side.Home i) o) (home-found nth from.ip)) in
            known-same a p (sender one a (place.Reverse k nth)) (λ j m is. (let at_k : k ≡ j = cc is in sym at_k
            ∙ here))
            ∙ ap (λ (s : Option Side). gives realm now (sent_admission other a p s)) found_by)
        | inr no' ↦ none-reverse realm now one k nth from octets seconds kept p (home_in one k nth from.ip) no'
            ∙ sym (none-reverse realm now other k nth from octets seconds kept p (home_in other k nth from.ip) no')
      ]

  read-same : (a : Arrival) (read : Result Packet Refusal) →
      gives realm now (read_admission one a read) ≡ gives realm now (read_admission other a read)
  read-same a (Err why) = refl
  read-same a (Ok p) = place-same a.at a.from a.octets a.seconds a.keeps_session p

  pub gives-same : (a : Arrival) → gives realm now (admission one a) ≡ gives realm now (admission other a)
  unfolding admission
  gives-same a = read-same a (reading a.octets)

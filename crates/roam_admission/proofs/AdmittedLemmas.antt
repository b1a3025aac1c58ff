-- What is admitted of a peer or a home server is a right request, and a right one is admitted.
use Rattle.std.proofs.Common.{◌≡◌, ◌↔◌, ℕ, Bool, true, false, List, [], ◌∷◌, Option, Some, None, inl, inr, refl, sym, ap, subst, ◌∙◌, arith}
use Rattle.std.specs.Prelude.{◌==◌, Ok}
use Rattle.std.proofs.lemmas.Bool.{cases_Bool}
use Rattle.std.proofs.lemmas.Bool.Decides.{Decides-eqb, nat_tests}
use Rattle.roam_wire.specs.Packet.{Packet}
use Rattle.roam_wire.specs.Reading.{reading}
use Rattle.roam_wire.specs.declared.code.TheConstants.{ACCESS_REQUEST, ACCOUNTING_REQUEST, COA_REQUEST, DISCONNECT_REQUEST}
use Rattle.roam_wire.specs.declared.refusal.Refusal.{Refusal}
use Rattle.roam_wire.specs.declared.refusal.Refusal.TheVariants as refusal
use Rattle.roam_crypto.specs.Deciding.{is_well_sealed}
use Rattle.roam_conf.specs.Config.{ConfigView}
use Rattle.roam_conf.specs.declared.place.Link.{Link}
use Rattle.roam_conf.specs.declared.place.Place.{Place}
use Rattle.roam_conf.specs.declared.place.Place.TheVariants as place
use Rattle.roam_admission.specs.UserName.{realm_of}
use Rattle.roam_admission.specs.LocalAnswer.{status_answer, status_code}
use Rattle.roam_admission.specs.declared.local_answer.LocalAnswer.TheVariants as local
use Rattle.roam_admission.specs.Admission.{Arrival, PlainJob, Admission, refused, admitted, sender, checked, answered_by, route_request, packet_admission, sent_admission, read_admission, admission, is_taken, has_few_attributes, has_few_hops, has_seal, is_status_request, status_from, peer_secret, home_secret}
use Rattle.roam_admission.specs.AdmittedRequests.{IsRequestAt, IsRightRequest, IsJobOf, IsOfRequest, AdmittedIsRight}
use Rattle.roam_admission.specs.declared.job.Side.{Side}
use Rattle.roam_admission.specs.declared.job.Side.TheVariants as side
use Rattle.roam_admission.proofs.RequestTestLemmas.{is_false}
use Rattle.roam_admission.proofs.RoutedLemmas.{IsJob, given_by}
use Rattle.roam_admission.proofs.RightLemmas.{Right, acct_admitted, auth_admitted, front_checked, reverse_admitted}

-- ---- a packet whose sender is known

-- the code of a request is one that is taken
code_taken : (at : Place) (s : Side) (code : ℕ) → IsRequestAt at s code → is_taken at s code ≡ true
code_taken (place.Auth nth) (side.Peer i) code h = rw h refl
code_taken (place.Acct nth) (side.Peer i) code h = rw h refl
code_taken (place.Reverse k nth) (side.Home i) code (inl h) = rw h refl
code_taken (place.Reverse k nth) (side.Home i) code (inr h) = rw h refl
code_taken (place.Reverse k nth) (side.Peer i) code h = absurd h
code_taken (place.Reverse k nth) (side.Link l) code h = absurd h
code_taken (place.Auth nth) (side.Link l) code h = absurd h
code_taken (place.Auth nth) (side.Home i) code h = absurd h
code_taken (place.Acct nth) (side.Link l) code h = absurd h
code_taken (place.Acct nth) (side.Home i) code h = absurd h
code_taken (place.Out k nth) (side.Peer i) code h = absurd h
code_taken (place.Out k nth) (side.Link l) code h = absurd h
code_taken (place.Out k nth) (side.Home i) code h = absurd h

-- and what is taken of a peer or a home server is a request's
pub taken_code : (at : Place) (s : Side) (code : ℕ) → IsOfRequest s → is_taken at s code ≡ true
    → IsRequestAt at s code
taken_code (place.Auth nth) (side.Peer i) code of h = (Decides-eqb code ACCESS_REQUEST).0 h
taken_code (place.Acct nth) (side.Peer i) code of h = (Decides-eqb code ACCOUNTING_REQUEST).0 h
taken_code (place.Reverse k nth) (side.Home i) code of h =
    elim (cases_Bool (code == DISCONNECT_REQUEST)) [
      | inl one ↦ inl ((Decides-eqb code DISCONNECT_REQUEST).0 one)
      | inr other ↦ inr ((Decides-eqb code COA_REQUEST).0 (rw other at h))
    ]
taken_code (place.Reverse k nth) (side.Peer i) code of h = absurd (cc h)
taken_code (place.Auth nth) (side.Home i) code of h = absurd (cc h)
taken_code (place.Acct nth) (side.Home i) code of h = absurd (cc h)
taken_code (place.Out k nth) (side.Peer i) code of h = absurd (cc h)
taken_code (place.Out k nth) (side.Home i) code of h = absurd (cc h)
taken_code at (side.Link l) code of h = absurd of

-- no Status-Server is a request that goes to a realm
no_status : (config : ConfigView) (at : Place) (s : Side) (code : ℕ) → IsRequestAt at s code
    → is_status_request config at s code ≡ false
no_status config (place.Auth nth) (side.Peer i) code h =
    is_false (is_status_request config (place.Auth nth) (side.Peer i) code)
    (λ is. absurd (grind (arith, nat_tests, is, h)))
no_status config (place.Acct nth) (side.Peer i) code h =
    is_false (is_status_request config (place.Acct nth) (side.Peer i) code)
    (λ is. absurd (grind (arith, nat_tests, is, h)))
no_status config (place.Reverse k nth) (side.Home i) code h = refl
no_status config (place.Reverse k nth) (side.Peer i) code h = absurd h
no_status config (place.Reverse k nth) (side.Link l) code h = absurd h
no_status config (place.Auth nth) (side.Link l) code h = absurd h
no_status config (place.Auth nth) (side.Home i) code h = absurd h
no_status config (place.Acct nth) (side.Link l) code h = absurd h
no_status config (place.Acct nth) (side.Home i) code h = absurd h
no_status config (place.Out k nth) (side.Peer i) code h = absurd h
no_status config (place.Out k nth) (side.Link l) code h = absurd h
no_status config (place.Out k nth) (side.Home i) code h = absurd h

-- so what its packet gives is judged
pub judged_is : (config : ConfigView) (a : Arrival) (s : Side) (p : Packet) → IsRequestAt a.at s p.code
    → sent_admission config a p (Some s) ≡ packet_admission config a s p a.at
judged_is config a s p h = rw (no_status config a.at s p.code h, code_taken a.at s p.code h) refl

-- what is admitted passed its check
unless : (b : Bool) (why : Refusal) (further : Admission) (job : PlainJob) → checked b why further ≡ admitted job
    → further ≡ admitted job
unless true why further job h = h
unless false why further job h = absurd (cc h)

-- what is admitted of a peer or a home server is a request's
status_never : (config : ConfigView) (a : Arrival) (s : Side) (p : Packet) (job : PlainJob)
    → status_from config a s p ≡ admitted job → ⊥
status_never config a (side.Link l) p job h = absurd (cc h)
status_never config a (side.Home i) p job h = absurd (cc h)
status_never config a (side.Peer i) p job h =
    let secret : List ℕ = peer_secret config i in
    let answer : Admission = answered_by (local.Status (status_code a.at)) a (status_answer a.at secret p) in
    let sealed : Bool = is_well_sealed secret (p.authenticator ∷ []) p in
    let rest : Admission = checked (has_seal p) refusal.MissingMessageAuthenticator answer in
    let counted : Admission = checked sealed refusal.BadMessageAuthenticator rest in
    let few : Bool = has_few_attributes config.max_attributes p in
    let asked : counted ≡ admitted job = unless few refusal.TooManyAttributes counted job h in
    let kept : rest ≡ admitted job = unless sealed refusal.BadMessageAuthenticator rest job asked in
    let last : answer ≡ admitted job = unless (has_seal p) refusal.MissingMessageAuthenticator answer job kept in
    absurd (cc last)

-- so an admission of a packet whose sender is known is of a code that is taken
packet_given : (config : ConfigView) (a : Arrival) (s : Side) (p : Packet) (job : PlainJob)
    → sent_admission config a p (Some s) ≡ admitted job
    → (is_taken a.at s p.code ≡ true) × (packet_admission config a s p a.at ≡ admitted job)
packet_given config a s p job h =
    elim (cases_Bool (is_status_request config a.at s p.code)) [
      | inl is ↦ absurd (let k : status_from config a s p ≡ admitted job = rw is at h in
          status_never config a s p job k)
      | inr isnt ↦ elim (cases_Bool (is_taken a.at s p.code)) [
        | inl is ↦ (let k : packet_admission config a s p a.at ≡ admitted job = rw (isnt, is) at h in (is, k))
        | inr wrong ↦ absurd (let k : refused refusal.WrongCode ≡ admitted job = rw (isnt, wrong) at h in cc k)
      ]
    ]

-- what a request gives at a place, by the place of the arrival
abbrev gives_at : ConfigView → List ℕ → Arrival → Side → Packet → Place → Admission
gives_at config secret a s p at =
    front_checked config secret s p
    (checked (has_few_hops config.max_hops p) refusal.TooManyHops (route_request config secret a s p at))

-- what the packet of a request gives, by its place and sender
packet_right : (config : ConfigView) (a : Arrival) (s : Side) (p : Packet) (at : Place) (job : PlainJob)
    → a.at ≡ at → IsRequestAt at s p.code
    → (packet_admission config a s p at ≡ admitted job) ↔ Right config a at s p job
packet_right config a (side.Peer i) p (place.Auth nth) job is code =
    subst (λ (x : Place). (gives_at config (peer_secret config i) a (side.Peer i) p x ≡ admitted job)
    ↔ Right config a (place.Auth nth) (side.Peer i) p job) (sym is) (auth_admitted nth config a i p job code)
packet_right config a (side.Peer i) p (place.Acct nth) job is code =
    subst (λ (x : Place). (gives_at config (peer_secret config i) a (side.Peer i) p x ≡ admitted job)
    ↔ Right config a (place.Acct nth) (side.Peer i) p job) (sym is) (acct_admitted nth config a i p job code)
packet_right config a (side.Home i) p (place.Reverse k nth) job is code =
    subst (λ (x : Place). (gives_at config (home_secret config k i) a (side.Home i) p x ≡ admitted job)
    ↔ Right config a (place.Reverse k nth) (side.Home i) p job) (sym is) (reverse_admitted nth config a k i p job code)
packet_right config a (side.Peer i) p (place.Reverse k nth) job is code = absurd code
packet_right config a (side.Link l) p (place.Reverse k nth) job is code = absurd code
packet_right config a (side.Link l) p (place.Auth nth) job is code = absurd code
packet_right config a (side.Home i) p (place.Auth nth) job is code = absurd code
packet_right config a (side.Link l) p (place.Acct nth) job is code = absurd code
packet_right config a (side.Home i) p (place.Acct nth) job is code = absurd code
packet_right config a (side.Peer i) p (place.Out k nth) job is code = absurd code
packet_right config a (side.Link l) p (place.Out k nth) job is code = absurd code
packet_right config a (side.Home i) p (place.Out k nth) job is code = absurd code

-- what a link sends is no request
link_side : (config : ConfigView) (a : Arrival) (l : Link) (p : Packet) (at : Place) (job : PlainJob)
    → is_taken at (side.Link l) p.code ≡ true
    → packet_admission config a (side.Link l) p at ≡ admitted job → job.side ≡ side.Link l
link_side config a l p (place.Out k nth) job taken h = ((given_by a (side.Link l) p k None job).0 h).1.side_is
link_side config a l p (place.Auth nth) job taken h = absurd (cc taken)
link_side config a l p (place.Acct nth) job taken h = absurd (cc taken)
link_side config a l p (place.Reverse k nth) job taken h = absurd (cc taken)

of_request : (config : ConfigView) (a : Arrival) (s : Side) (p : Packet) (job : PlainJob)
    → IsOfRequest job.side → is_taken a.at s p.code ≡ true
    → packet_admission config a s p a.at ≡ admitted job → IsOfRequest s
of_request config a (side.Peer i) p job of taken h = tt
of_request config a (side.Home i) p job of taken h = tt
of_request config a (side.Link l) p job of taken h =
    subst IsOfRequest (link_side config a l p a.at job taken h) of

-- what the packet of an arrival gives, the arrival gives
pub as_sent : (config : ConfigView) (a : Arrival) (p : Packet) → reading a.octets ≡ Ok p
    → admission config a ≡ sent_admission config a p (sender config a a.at)
unfolding admission
as_sent config a p read = ap (read_admission config a) read

-- what is admitted is right
sent_right : (config : ConfigView) (a : Arrival) (p : Packet) (job : PlainJob) (o : Option Side)
    → sender config a a.at ≡ o → IsOfRequest job.side → sent_admission config a p o ≡ admitted job
    → IsJobOf config a p job × IsRightRequest config a.seconds a.at job.side p job.realm
sent_right config a p job None from of h = absurd (cc h)
sent_right config a p job (Some s) from of h =
    let packet = packet_given config a s p job h in
    let code = taken_code a.at s p.code (of_request config a s p job of packet.0 packet.1) packet.0 in
    let right = (packet_right config a s p a.at job refl code).0 packet.1 in
    let is = right.0 in (
      record {
        place = is.place_is;
        from = is.from_is;
        sender = from ∙ ap (λ (x : Side). Some x) (sym is.side_is);
        octets = is.octets_are;
        named = is.named_is;
        keeps_session = is.kept_is;
      },
      subst (λ (x : Side). IsRightRequest config a.seconds a.at x p job.realm) (sym is.side_is) right.1,
    )

pub admitted_is_right : AdmittedIsRight
admitted_is_right config a p job read of = (
  λ h. sent_right config a p job (sender config a a.at) refl of (sym (as_sent config a p read) ∙ h),
  λ h. (
      let of_packet = h.0 in
      let right = h.1 in
      let is : IsJob a job.side p (realm_of config p.attributes) job = record {
        place_is = of_packet.place;
        from_is = of_packet.from;
        side_is = refl;
        octets_are = of_packet.octets;
        named_is = of_packet.named;
        kept_is = of_packet.keeps_session;
      } in
      as_sent config a p read
      ∙ ap (sent_admission config a p) of_packet.sender
      ∙ judged_is config a job.side p right.code
      ∙ (packet_right config a job.side p a.at job refl right.code).1 (is, right)
      ),
)

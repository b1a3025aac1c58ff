-- What is admitted of a packet, by its sender.
use Rattle.std.proofs.Common.{◌≡◌, ℕ, Bool, true, List, [], ◌∷◌, Option, Some, None, refl, sym, ap, subst, ◌∙◌, arith}
use Rattle.std.specs.Prelude.{option_map}
use Rattle.std.proofs.lemmas.Bool.Decides.{nat_tests}
use Rattle.roam_wire.specs.Packet.{Packet, packet_text}
use Rattle.roam_wire.specs.declared.code.TheConstants.{ACCESS_REQUEST}
use Rattle.roam_wire.specs.declared.refusal.Refusal.TheVariants as refusal
use Rattle.roam_crypto.specs.Deciding.{is_well_sealed}
use Rattle.roam_crypto.specs.MessageAuthenticator.{HasAtMostOneMessageAuthenticator}
use Rattle.roam_conf.specs.Config.{ConfigView}
use Rattle.roam_address.specs.declared.endpoint.Endpoint.{Endpoint}
use Rattle.roam_conf.specs.Lookup.{asker_at}
use Rattle.roam_conf.specs.declared.place.Place.{Place}
use Rattle.roam_conf.specs.declared.place.Place.TheVariants as place
use Rattle.roam_admission.specs.UserName.{realm_of}
use Rattle.roam_admission.specs.Freshness.{is_fresh}
use Rattle.roam_admission.specs.LocalAnswer.{accounting_answer, status_answer, status_code}
use Rattle.roam_admission.specs.LocalReject.{is_rejected}
use Rattle.roam_admission.specs.Shapings.{sent_length}
use Rattle.roam_admission.specs.declared.local_answer.LocalAnswer.TheVariants as local
use Rattle.roam_admission.specs.RejectCauses.{reject_cause}
use Rattle.roam_admission.specs.Admission.{Arrival, PlainOut, Admission, sender, checked, accounted, is_answered_unnamed, answered_by, forwarded_for, rejected_for, for_named_realm, route_request, packet_admission, sent_admission, is_taken, has_seal, is_status_request, status_admission, status_from, peer_secret, home_secret, has_few_attributes}
use Rattle.roam_admission.specs.declared.job.Side.{Side}
use Rattle.roam_admission.specs.declared.job.Side.TheVariants as side
use Rattle.roam_admission.proofs.PasswordLemmas.{unrejected_blocks}
use Rattle.roam_admission.proofs.SenderLemmas.{realm_of_within, peer_known, link_known, home_known}
use Rattle.roam_admission.proofs.AdmitsLemmas.{Admits, IsFor, IsFromPeer, accounted_admits, answer_admits, checked_admits, either_admits, forwarded_admits, given_admits, own_realm_admits, refused_admits, reject_admits, rejected_admits, request_admits}

-- the codes of an access server at each place, and of a home server
code_at_acct : (nth : ℕ) (s : Side) (code : ℕ) → is_taken (place.Acct nth) s code ≡ true → code ≡ ACCESS_REQUEST
    → ⊥
code_at_acct nth (side.Peer i) code taken access = grind (arith, nat_tests, taken, access)
code_at_acct nth (side.Link l) code taken access = absurd (cc taken)
code_at_acct nth (side.Home i) code taken access = absurd (cc taken)

code_at_reverse : (nth : ℕ) (realm i code : ℕ) → is_taken (place.Reverse realm nth) (side.Home i) code ≡ true
    → code ≡ ACCESS_REQUEST → ⊥
code_at_reverse nth realm i code taken access = grind (arith, nat_tests, taken, access)

-- a peer's request, where it goes from its place
peer_admits : (config : ConfigView) (secret : List ℕ) (a : Arrival) (i : ℕ) (p : Packet)
    (at : Place)
    → is_taken at (side.Peer i) p.code ≡ true → IsFromPeer config a i p
    → HasAtMostOneMessageAuthenticator p
    → Admits config a p (route_request config secret a (side.Peer i) p at)
unfolding IsFromPeer
peer_admits config secret a i p (place.Auth nth) test h seal =
    let named_one : Admission = for_named_realm config a (side.Peer i) p (realm_of config p.attributes) in
    either_admits config a p (is_rejected config (side.Peer i) p)
    (rejected_for (reject_cause config (side.Peer i) p) secret a p) named_one
    (reject_admits config (reject_cause config (side.Peer i) p) secret a p)
    (λ passes. own_realm_admits config a i p h (record {
      seal = seal;
      passwords = λ _. unrejected_blocks config (side.Peer i) p passes;
    }))
peer_admits config secret a i p (place.Acct nth) test h seal =
    let named : Option ℕ = realm_of config p.attributes in
    either_admits config a p (is_answered_unnamed config p) (answered_by local.Response a (accounting_answer secret p))
    (accounted config secret a (side.Peer i) p named) (answer_admits config secret a p)
    (λ _. accounted_admits config secret a i p named refl (λ x is. h x (realm_of_within config p.attributes x is))
    (record {
      seal = seal;
      passwords = λ access. absurd (code_at_acct nth (side.Peer i) p.code test access);
    }))
peer_admits config secret a i p (place.Out realm nth) test h seal = absurd (cc test)
peer_admits config secret a i p (place.Reverse realm nth) test h seal = absurd (cc test)

-- a home server's goes to the realm of its place
home_admits : (nth : ℕ) (config : ConfigView) (secret : List ℕ) (a : Arrival) (i : ℕ) (p : Packet) (realm : ℕ)
    → is_taken (place.Reverse realm nth) (side.Home i) p.code ≡ true
    → IsFor config a (side.Home i) p realm → HasAtMostOneMessageAuthenticator p
    → Admits config a p (route_request config secret a (side.Home i) p (place.Reverse realm nth))
home_admits nth config secret a i p realm test h seal =
    let names : Option ℕ = realm_of config p.attributes in
    checked_admits config a p (is_fresh config.fresh a.seconds p.attributes) refusal.Stale
    (forwarded_for (sent_length config (side.Home i) p realm) a (side.Home i) p realm names) (λ _.
    forwarded_admits config a (side.Home i) p realm names h (record {
      seal = seal;
      passwords = λ access. absurd (code_at_reverse nth realm i p.code test access);
    }) refl)

from_peer : (own : List Endpoint) (nth : ℕ) (config : ConfigView) (a : Arrival) (i : ℕ) (p : Packet)
    → option_map (λ n. side.Peer n) (asker_at own config.peers nth a.from.ip) ≡ Some (side.Peer i)
    → is_taken a.at (side.Peer i) p.code ≡ true → IsFromPeer config a i p
unfolding IsFromPeer
from_peer own nth config a i p from test = λ realm within. record {
  code = test;
  within = within;
  sender = peer_known own nth config a i from;
}

-- the same by the place of the arrival
taken_at : (a : Arrival) (s : Side) (p : Packet) (at : Place) → a.at ≡ at
    → is_taken at s p.code ≡ true → is_taken a.at s p.code ≡ true
taken_at a s p at is test = ap (λ (x : Place). is_taken x s p.code) is ∙ test

routed_at : (config : ConfigView) (secret : List ℕ) (a : Arrival) (s : Side) (p : Packet)
    (at : Place)
    → a.at ≡ at → Admits config a p (route_request config secret a s p at)
    → Admits config a p (route_request config secret a s p a.at)
routed_at config secret a s p at is h =
    subst (λ (x : Place). Admits config a p (route_request config secret a s p x)) (sym is) h

-- a packet from a sender that is known, and of a code that is taken
packet_admits : (config : ConfigView) (a : Arrival) (s : Side) (p : Packet) (at : Place)
    → a.at ≡ at → sender config a at ≡ Some s → is_taken at s p.code ≡ true
    → Admits config a p (packet_admission config a s p at)
packet_admits config a (side.Link l) p (place.Out realm nth) is from test =
    let known = link_known nth config a realm l from in
    given_admits config a (side.Link l) p realm None (record {
      code = taken_at a (side.Link l) p (place.Out realm nth) is test;
      within = known.0;
      sender = known.1;
    }) tt refl
packet_admits config a (side.Peer i) p (place.Out realm nth) is from test = absurd (cc test)
packet_admits config a (side.Home i) p (place.Out realm nth) is from test = absurd (cc test)
packet_admits config a (side.Peer i) p (place.Auth nth) is from test =
    let secret = peer_secret config i in
    let of_peer = from_peer config.auth nth config a i p from (taken_at a (side.Peer i) p (place.Auth nth) is test) in
    request_admits config secret a (side.Peer i) p (λ seal.
    routed_at config secret a (side.Peer i) p (place.Auth nth) is
    (peer_admits config secret a i p (place.Auth nth) test of_peer seal))
packet_admits config a (side.Peer i) p (place.Acct nth) is from test =
    let secret = peer_secret config i in
    let of_peer = from_peer config.acct nth config a i p from (taken_at a (side.Peer i) p (place.Acct nth) is test) in
    request_admits config secret a (side.Peer i) p (λ seal.
    routed_at config secret a (side.Peer i) p (place.Acct nth) is
    (peer_admits config secret a i p (place.Acct nth) test of_peer seal))
packet_admits config a (side.Peer i) p (place.Reverse realm nth) is from test = absurd (cc test)
packet_admits config a (side.Home i) p (place.Reverse realm nth) is from test =
    let secret = home_secret config realm i in
    let known = home_known nth config a realm i from in
    request_admits config secret a (side.Home i) p (λ seal.
    routed_at config secret a (side.Home i) p (place.Reverse realm nth) is
    (home_admits nth config secret a i p realm test (record {
      code = taken_at a (side.Home i) p (place.Reverse realm nth) is test;
      within = known.0;
      sender = known.1;
    }) seal))
packet_admits config a (side.Home i) p (place.Auth nth) is from test = absurd (cc test)
packet_admits config a (side.Home i) p (place.Acct nth) is from test = absurd (cc test)
packet_admits config a (side.Link l) p (place.Auth nth) is from test = absurd (cc test)
packet_admits config a (side.Link l) p (place.Acct nth) is from test = absurd (cc test)
packet_admits config a (side.Link l) p (place.Reverse realm nth) is from test = absurd (cc test)

-- a Status-Server is no event
status_admits : (config : ConfigView) (most : Option ℕ) (secret : List ℕ) (a : Arrival) (p : Packet)
    → Admits config a p (status_admission most secret a p)
status_admits config most secret a p =
    let answer : Admission = answered_by (local.Status (status_code a.at)) a (status_answer a.at secret p) in
    let bytes : List ℕ = packet_text (status_answer a.at secret p) in
    let out : PlainOut = record { realm = None; from = a.at; to = a.from; bytes = bytes } in
    let has : Admission = checked (has_seal p) refusal.MissingMessageAuthenticator answer in
    let sealed : Bool = is_well_sealed secret (p.authenticator ∷ []) p in
    checked_admits config a p (has_few_attributes most p) refusal.TooManyAttributes
    (checked sealed refusal.BadMessageAuthenticator has) (λ _.
    checked_admits config a p sealed refusal.BadMessageAuthenticator has (λ _.
    checked_admits config a p (has_seal p) refusal.MissingMessageAuthenticator answer (λ _.
    rejected_admits config a p (local.Status (status_code a.at)) out)))

status_from_admits : (config : ConfigView) (a : Arrival) (s : Side) (p : Packet)
    → Admits config a p (status_from config a s p)
status_from_admits config a (side.Peer i) p =
    status_admits config config.max_attributes (peer_secret config i) a p
status_from_admits config a (side.Link l) p = refused_admits config a p refusal.WrongCode
status_from_admits config a (side.Home i) p = refused_admits config a p refusal.WrongCode

pub sent_admits : (config : ConfigView) (a : Arrival) (p : Packet) (s : Option Side)
    → sender config a a.at ≡ s → Admits config a p (sent_admission config a p s)
sent_admits config a p None from = refused_admits config a p refusal.UnknownSource
sent_admits config a p (Some s) from =
    let code : Bool = is_taken a.at s p.code in
    let judged : Admission = packet_admission config a s p a.at in
    either_admits config a p (is_status_request config a.at s p.code) (status_from config a s p)
    (checked code refusal.WrongCode judged) (status_from_admits config a s p) (λ _.
    checked_admits config a p code refusal.WrongCode judged (λ test.
    packet_admits config a s p a.at refl from test))

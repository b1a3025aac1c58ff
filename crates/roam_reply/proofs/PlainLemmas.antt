-- The returned packet before its salted strings are hidden anew: its size, its octets, what it becomes.
use Rattle.std.proofs.Common.{◌≡◌, ℕ, ◌+◌, ◌≤◌, Bool, true, false, inl, inr, List, [], ◌∷◌, ◌++◌, length, map, filter, take, drop, None, refl, sym, ap, subst, ◌∙◌, arith, length-append}
use Rattle.std.specs.Prelude.{◌==◌, if◌then◌else◌}
use Rattle.std.specs.List.{AllByRecursion}
use Rattle.std.proofs.lemmas.Bool.{cases_Bool, eqb-true}
use Rattle.std.proofs.lemmas.List.{take_at, drop_at, map-append}
use Rattle.roam_wire.specs.Packet.{Attribute, IsAttribute, Packet, IsPacket, attribute_text, attributes_text, packet_length, packet_text}
use Rattle.roam_wire.specs.Reading.{IsPacketText, packet_of}
use Rattle.roam_wire.specs.Attributes.{has_kind, only_kind, without_kind}
use Rattle.roam_wire.specs.declared.attribute_type.TheConstants.{PROXY_STATE, MESSAGE_AUTHENTICATOR}
use Rattle.roam_wire.specs.declared.code.TheConstants.{ACCESS_ACCEPT}
use Rattle.roam_wire.proofs.LawLemmas.{AreTextOf, AreTextOf-packet_text}
use Rattle.roam_wire.proofs.OctetLemmas.{AreOctets-zeros}
use Rattle.roam_crypto.proofs.SealingLemmas.{length-attributes_text-append}
use Rattle.roam_crypto.specs.declared.packet_values.Hidden.TheVariants.{SaltedStrings}
use Rattle.roam_crypto.specs.Hiding.{Key}
use Rattle.roam_crypto.specs.PacketAnew.{packet_anew, CanBeHiddenAnew}
use Rattle.roam_crypto.specs.SaltedKinds.{salting_of}
use Rattle.roam_crypto.proofs.VendorLemmas.{unsalted_stays, proxy_state_unsalted, message_authenticator_unsalted}
use Rattle.roam_wire.specs.Codes.{is_access_reply}
use Rattle.roam_reply.specs.Returned.{Returning, proxy_states, with_salted_anew, returned_attributes, unsealed_return, returned_length}
use Rattle.roam_reply.specs.Private.Plain.{is_carried, first_seal, plain_attributes, plain_packet}
use Rattle.roam_reply.proofs.ReturnedLemmas.{short_kept, short_joined, carried-others}
use Rattle.roam_reply.proofs.EveryCodeLemmas.{salted_size, short_salted, carried-access}

-- ---- the attributes that are carried

carried-none : (all : List Attribute) → filter (is_carried false) all ≡ without_kind PROXY_STATE all
unfolding is_carried
carried-none [] = refl
carried-none (a ∷ all) =
    elim (cases_Bool (has_kind PROXY_STATE a)) [
      | inl found ↦ rw found (carried-none all)
      | inr further ↦ rw further (ap (λ (l : List Attribute). a ∷ l) (carried-none all))
    ]

carried-some : (all : List Attribute) →
    filter (is_carried true) all ≡ without_kind MESSAGE_AUTHENTICATOR (without_kind PROXY_STATE all)
unfolding is_carried
carried-some [] = refl
carried-some (a ∷ all) =
    elim (cases_Bool (has_kind PROXY_STATE a)) [
      | inl found ↦ rw found (carried-some all)
      | inr further ↦ elim (cases_Bool (has_kind MESSAGE_AUTHENTICATOR a)) [
        | inl seal ↦ rw (further, seal) (carried-some all)
        | inr other ↦ rw (further, other) (ap (λ (l : List Attribute). a ∷ l) (carried-some all))
      ]
    ]

-- ---- salted strings hidden anew

-- what isn't salted stays
stays : (r : Returning) (request : Packet) (a : Attribute) → a.kind ≡ PROXY_STATE → with_salted_anew r request a ≡ a
stays r request a is =
    let from : Key = record { secret = r.home_secret; first = r.forwarded_authenticator } in
    let to : Key = record { secret = r.client_secret; first = request.authenticator } in
    unsalted_stays from to a (ap (salting_of None) is ∙ proxy_state_unsalted)
    (λ vendor. absurd (omega (arith, is, vendor)))

proxy_states-stay : (r : Returning) (request : Packet) (all : List Attribute) →
    map (with_salted_anew r request) (only_kind PROXY_STATE all) ≡ only_kind PROXY_STATE all
proxy_states-stay r request [] = refl
proxy_states-stay r request (a ∷ all) =
    elim (cases_Bool (has_kind PROXY_STATE a)) [
      | inl found ↦
          let here = stays r request a (eqb-true a.kind PROXY_STATE found) in
          rw found (ap (λ (x : Attribute). x ∷ map (with_salted_anew r request) (only_kind PROXY_STATE all)) here
          ∙ ap (λ (l : List Attribute). a ∷ l) (proxy_states-stay r request all))
      | inr further ↦ rw further (proxy_states-stay r request all)
    ]

-- and so does a Message-Authenticator
abbrev IsSeal : Attribute → Type 0
IsSeal a = a.kind ≡ MESSAGE_AUTHENTICATOR

seals-stay : (r : Returning) (request : Packet) (all : List Attribute) → AllByRecursion IsSeal all →
    map (with_salted_anew r request) all ≡ all
seals-stay r request [] h = refl
seals-stay r request (a ∷ all) h =
    let from : Key = record { secret = r.home_secret; first = r.forwarded_authenticator } in
    let to : Key = record { secret = r.client_secret; first = request.authenticator } in
    let here = unsalted_stays from to a (ap (salting_of None) h.0 ∙ message_authenticator_unsalted)
    (λ vendor. absurd (omega (arith, h.0, vendor))) in
    ap (λ (x : Attribute). x ∷ map (with_salted_anew r request) all) here
    ∙ ap (λ (l : List Attribute). a ∷ l) (seals-stay r request all h.1)

seals-first : (access : Bool) → AllByRecursion IsSeal (first_seal access)
seals-first true = (refl, tt)
seals-first false = tt

-- the octets are as many
length-salted : (r : Returning) (request : Packet) (all : List Attribute) →
    length (attributes_text (map (with_salted_anew r request) all)) ≡ length (attributes_text all)
length-salted r request [] = refl
length-salted r request (a ∷ all) =
    let here = salted_size r request a in
    let others = length-salted r request all in
    omega (
      arith,
      here,
      others,
      length-append (attribute_text (with_salted_anew r request a))
          (attributes_text (map (with_salted_anew r request) all)),
      length-append (attribute_text a) (attributes_text all),
    )

-- of attributes between the first Message-Authenticator and the Proxy-States, those between change
between-anew : (r : Returning) (request : Packet) (access : Bool) (own : List Attribute) →
    map (with_salted_anew r request) (first_seal access ++ own ++ proxy_states request) ≡ first_seal access
    ++ map (with_salted_anew r request) own ++ proxy_states request
between-anew r request access own =
    let anew : Attribute → Attribute = with_salted_anew r request in
    map-append anew (first_seal access ++ own) (proxy_states request)
    ∙ ap (λ (l : List Attribute). map anew (first_seal access ++ own) ++ l)
    (proxy_states-stay r request request.attributes)
    ∙ ap (λ (l : List Attribute). l ++ proxy_states request) (map-append anew (first_seal access) own)
    ∙ ap (λ (l : List Attribute). l ++ map anew own ++ proxy_states request)
    (seals-stay r request (first_seal access) (seals-first access))

-- a packet with the header that is returned
abbrev with_header : Packet → Packet → List Attribute → Packet
with_header reply request all =
    record { code = reply.code; id = request.id; authenticator = request.authenticator; attributes = all }

plain-access : (reply request : Packet) → is_access_reply reply.code ≡ true →
    plain_attributes reply request ≡ first_seal true
    ++ without_kind MESSAGE_AUTHENTICATOR (without_kind PROXY_STATE reply.attributes) ++ proxy_states request
plain-access reply request access =
    ap (λ (b : Bool). first_seal b ++ filter (is_carried b) reply.attributes ++ proxy_states request) access
    ∙ ap (λ (l : List Attribute). first_seal true ++ l ++ proxy_states request) (carried-some reply.attributes)

plain-others : (reply request : Packet) → is_access_reply reply.code ≡ false →
    plain_attributes reply request ≡ without_kind PROXY_STATE reply.attributes ++ proxy_states request
plain-others reply request other =
    ap (λ (b : Bool). first_seal b ++ filter (is_carried b) reply.attributes ++ proxy_states request) other
    ∙ ap (λ (l : List Attribute). l ++ proxy_states request) (carried-none reply.attributes)

-- an Access-Accept is an Access reply
pub accept_is_access : (reply : Packet) → (reply.code == ACCESS_ACCEPT) ≡ true → is_access_reply reply.code ≡ true
accept_is_access reply accept = rw accept refl

unsealed-accept : (r : Returning) (reply request : Packet) → (reply.code == ACCESS_ACCEPT) ≡ true →
    unsealed_return r reply request
    ≡ with_header reply request (map (with_salted_anew r request) (plain_attributes reply request))
unsealed-accept r reply request accept =
    let own : List Attribute = without_kind MESSAGE_AUTHENTICATOR (without_kind PROXY_STATE reply.attributes) in
    let anew : Attribute → Attribute = with_salted_anew r request in
    let access = accept_is_access reply accept in
    let rest : (if reply.code == ACCESS_ACCEPT then map anew own else own) ≡ map anew own = rw accept refl in
    let carried : returned_attributes r reply request ≡ first_seal true ++ map anew own =
    carried-access r reply request access ∙ ap (λ (l : List Attribute). first_seal true ++ l) rest in
    ap (λ (all : List Attribute). with_header reply request (all ++ proxy_states request)) carried
    ∙ ap (with_header reply request) (sym (between-anew r request true own))
    ∙ ap (λ (all : List Attribute). with_header reply request (map anew all)) (sym (plain-access reply request access))

unsealed-plain : (r : Returning) (reply request : Packet) → (reply.code == ACCESS_ACCEPT) ≡ false →
    unsealed_return r reply request ≡ plain_packet reply request
unsealed-plain r reply request not_accept =
    let own : List Attribute = without_kind MESSAGE_AUTHENTICATOR (without_kind PROXY_STATE reply.attributes) in
    let anew : Attribute → Attribute = with_salted_anew r request in
    elim (cases_Bool (is_access_reply reply.code)) [
      | inl access ↦
          let rest : (if reply.code == ACCESS_ACCEPT then map anew own else own) ≡ own = rw not_accept refl in
          let carried : returned_attributes r reply request ≡ first_seal true ++ own =
          carried-access r reply request access ∙ ap (λ (l : List Attribute). first_seal true ++ l) rest in
          ap (λ (all : List Attribute). with_header reply request (all ++ proxy_states request)) carried
          ∙ ap (with_header reply request) (sym (plain-access reply request access))
      | inr other ↦
          ap (λ (all : List Attribute). with_header reply request (all ++ proxy_states request))
          (carried-others r reply request other)
          ∙ ap (with_header reply request) (sym (plain-others reply request other))
    ]

-- ---- its size

-- salted strings don't change it
pub returned_length-plain : (r : Returning) (reply request : Packet) →
    returned_length r reply request ≡ packet_length (plain_packet reply request)
unfolding returned_length
returned_length-plain r reply request =
    elim (cases_Bool (reply.code == ACCESS_ACCEPT)) [
      | inl accept ↦
          ap packet_length (unsealed-accept r reply request accept)
          ∙ ap (λ (n : ℕ). 20 + n) (length-salted r request (plain_attributes reply request))
      | inr other ↦ ap packet_length (unsealed-plain r reply request other)
    ]

-- it is the sum of its parts
pub packet_length-plain : (reply request : Packet) (access : Bool) → access ≡ is_access_reply reply.code →
    packet_length (plain_packet reply request)
    ≡ 20 + length (attributes_text (first_seal access)) + length
    (attributes_text (filter (is_carried access) reply.attributes)) + length
    (attributes_text (only_kind PROXY_STATE request.attributes))
packet_length-plain reply request access is =
    let own : List Attribute = filter (is_carried access) reply.attributes in
    let same : plain_attributes reply request ≡ first_seal access ++ own ++ proxy_states request =
    ap (λ (b : Bool). first_seal b ++ filter (is_carried b) reply.attributes ++ proxy_states request) (sym is) in
    let size = ap (λ (l : List Attribute). length (attributes_text l)) same in
    let both = length-attributes_text-append (first_seal access ++ own) (proxy_states request) in
    let front = length-attributes_text-append (first_seal access) own in
    omega (arith, size, both, front)

-- ---- its octets

short_first : (access : Bool) → AllByRecursion IsAttribute (first_seal access)
short_first true = (record { kind = omega arith; octets = AreOctets-zeros 16; size = omega arith }, tt)
short_first false = tt

pub IsPacket-plain : (reply request : Packet) → IsPacket reply → IsPacket request →
    packet_length (plain_packet reply request) ≤ 4096 → IsPacket (plain_packet reply request)
IsPacket-plain reply request a b short =
    let access : Bool = is_access_reply reply.code in
    let own : List Attribute = filter (is_carried access) reply.attributes in
    let front = short_joined (first_seal access) own (short_first access)
    (short_kept (is_carried access) reply.attributes a.attributes) in
    record {
      code = a.code;
      id = b.id;
      octets = b.octets;
      authenticator = b.authenticator;
      attributes = short_joined (first_seal access ++ own) (proxy_states request) front
          (short_kept (has_kind PROXY_STATE) request.attributes b.attributes);
      size = short;
    }

-- octets that end with it, behind those that were there before
pub record IsBehindPlain (reply request : Packet) (before octets : List ℕ) (start : ℕ) : Type 0 where
  pub front : take start octets ≡ before
  pub there : AreTextOf (plain_packet reply request) (drop start octets)

pub behind_plain : (reply request : Packet) (before reserved octets : List ℕ) (start size : ℕ) → IsPacket reply →
    IsPacket request → size ≡ packet_length (plain_packet reply request) → size ≤ 4096 → start ≡ length before →
    reserved ≡ before → octets ≡ reserved ++ packet_text (plain_packet reply request) →
    IsBehindPlain reply request before octets start
behind_plain reply request before reserved octets start size a b size-is short start-is reserved-is octets-are =
    let p : Packet = plain_packet reply request in
    let packet : IsPacket p = IsPacket-plain reply request a b (omega (arith, size-is, short)) in
    let all : octets ≡ before ++ packet_text p = octets-are
    ∙ ap (λ (front : List ℕ). front ++ packet_text p) reserved-is in
    let behind : drop start octets ≡ packet_text p = ap (drop start) all
    ∙ drop_at before (packet_text p) start (sym start-is) in
    record {
      front = ap (take start) all ∙ take_at before (packet_text p) start (sym start-is);
      there = subst (AreTextOf p) (sym behind) (AreTextOf-packet_text p packet);
    }

-- ---- what it becomes

-- the keys that a salted string is hidden with
abbrev pub from_key : Returning → Key
from_key r = record { secret = r.home_secret; first = r.forwarded_authenticator }

abbrev pub to_key : Returning → Packet → Key
to_key r request = record { secret = r.client_secret; first = request.authenticator }

-- each attribute of an Access-Accept can be hidden anew
pub can_be-salted : (all : List Attribute) → AllByRecursion (CanBeHiddenAnew SaltedStrings) all
can_be-salted [] = tt
can_be-salted (a ∷ all) = (record { password = λ e. absurd (cc e) }, can_be-salted all)

pub rehidden_text : (r : Returning) (reply request p : Packet) → p ≡ plain_packet reply request →
    (reply.code == ACCESS_ACCEPT) ≡ true →
    packet_text (packet_anew SaltedStrings (from_key r) (to_key r request) p)
    ≡ packet_text (unsealed_return r reply request)
rehidden_text r reply request p is accept =
    ap (λ (x : Packet). packet_text (packet_anew SaltedStrings (from_key r) (to_key r request) x)) is
    ∙ ap packet_text (sym (unsealed-accept r reply request accept))

pub plain_text_stays : (r : Returning) (reply request p : Packet) → p ≡ plain_packet reply request →
    (reply.code == ACCESS_ACCEPT) ≡ false → packet_text p ≡ packet_text (unsealed_return r reply request)
plain_text_stays r reply request p is other =
    ap packet_text is ∙ ap packet_text (sym (unsealed-plain r reply request other))

IsPacket-salted : (r : Returning) (request p : Packet) → IsPacket p →
    IsPacket (record p { attributes = map (with_salted_anew r request) p.attributes })
IsPacket-salted r request p h =
    let limit = h.size in
    record {
      code = h.code;
      id = h.id;
      octets = h.octets;
      authenticator = h.authenticator;
      attributes = short_salted r request p.attributes h.attributes;
      size = omega (arith, limit, length-salted r request p.attributes);
    }

-- and that is a packet
pub unsealed_there : (r : Returning) (reply request : Packet) (plain written : List ℕ) → IsPacketText plain →
    packet_of plain ≡ plain_packet reply request → written ≡ packet_text (unsealed_return r reply request) →
    AreTextOf (unsealed_return r reply request) written
unsealed_there r reply request plain written text is written-is =
    let packet : IsPacket (plain_packet reply request) = subst IsPacket is text.packet in
    let unsealed_packet : IsPacket (unsealed_return r reply request) =
    elim (cases_Bool (reply.code == ACCESS_ACCEPT)) [
      | inl accept ↦ subst IsPacket (sym (unsealed-accept r reply request accept))
          (IsPacket-salted r request (plain_packet reply request) packet)
      | inr other ↦ subst IsPacket (sym (unsealed-plain r reply request other)) packet
    ] in
    subst (AreTextOf (unsealed_return r reply request)) (sym written-is)
    (AreTextOf-packet_text (unsealed_return r reply request) unsealed_packet)

-- The functions of texts answer what is stated, and nothing else.
use Rattle.std.proofs.Common.{◌≡◌, ◌≢◌, ◌≤◌, IfSome, ℕ, Bool, true, false, cond, List, [], ◌∷◌, ◌++◌, take, length, append-nil, Option, Some, None, MatchOption, option_map, option_and_then, refl, sym, ap, ◌∙◌, subst, arith, lit≤, inl, inr, ne_eqb, eq-eqb, true≢false}
use Rattle.std.proofs.lemmas.Bool.{cases_Bool}
use Rattle.std.proofs.lemmas.Option.{none-some, same_Some}
use Rattle.std.proofs.lemmas.Slice.Eq.{bytes_eq-Decides}
use Rattle.std.proofs.NetLemmas.Ipv4.{read_byte_sound, read_ipv4_complete, read_ipv4_sound}
use Rattle.std.proofs.NetLemmas.Ipv6.{EndsGroups, EndsGroups-nil, read_ipv6_complete, read_ipv6_sound}
use Rattle.std.specs.Option.{option_or}
use Rattle.std.specs.Str.{bytes_eq}
use Rattle.std.specs.declared.net.ip_addr.IpAddr.{IpAddr}
use Rattle.std.specs.declared.net.ip_addr.IpAddr.TheVariants.{V4, V6}
use Rattle.std.specs.Net.Addr.{ipv6_segments, is_ipv6}
use Rattle.std.specs.Net.Grammar.{IsDotted, IsColonHex, IsIpText}
use Rattle.std.specs.Net.Reader.{read_byte, read_ipv4, read_ipv6, map_or, whole_value}
use Rattle.roam_address.specs.declared.address.Address.{Address}
use Rattle.roam_address.specs.declared.endpoint.Endpoint.{Endpoint}
use Rattle.roam_address.specs.Addresses.{ip_of, IsMapped, IsAddressText, IsTextOfKind, IsHostText}
use Rattle.roam_address.specs.Decimals.{decimal_in}
use Rattle.roam_address.specs.Endpoints.{IsEndpointText}
use Rattle.roam_address.specs.Reading.{Reads}
use Rattle.roam_address.specs.Texts.{ipv4_in, ip_in, address_of, address_in, closed, host_in, cut_last, endpoint_from, endpoint_in}
use Rattle.roam_address.proofs.AddressLemmas.{one_address, reads_new, reads_none}
use Rattle.roam_address.proofs.DecimalLemmas.{decimal_in-least}
use Rattle.roam_address.proofs.EndpointLemmas.{one_endpoint, reads_no_colon, reads_no_host, reads_no_port, reads_both}
use Rattle.roam_address.proofs.HostLemmas.{reads_plain, reads_bracketed, reads_no_inner}
use Rattle.roam_address.proofs.SplitLemmas.{Lacks, cut_last-parts}

-- two answers to one question are the same
pub same_answer : {A : Type 0} (States : List ℕ → A → Type 0) (text : List ℕ) (r q : Option A) →
    ((x y : A) → States text x → States text y → x ≡ y) → Reads States text r → Reads States text q → r ≡ q
same_answer States text None None one h k = refl
same_answer States text None (Some y) one h k = absurd (h y k)
same_answer States text (Some x) None one h k = absurd (k x h)
same_answer States text (Some x) (Some y) one h k = ap Some (one x y h k)

-- ## What the readers of std read as a whole

whole_sound : (Spells : List ℕ → List ℕ → Type 0) (text v : List ℕ) (r : Option (List ℕ × List ℕ)) →
    ((a rest : List ℕ) → r ≡ Some (a, rest) → (front : List ℕ) × (text ≡ front ++ rest) × Spells front a) →
    whole_value r ≡ Some v → Spells text v
whole_sound Spells text v None sound is = absurd (none-some v is)
whole_sound Spells text v (Some (a, [])) sound is =
    let whole = sound a [] refl in
    let front : Spells text a = subst (λ (t : List ℕ). Spells t a) (sym (whole.1 ∙ append-nil whole.0)) whole.2 in
    subst (Spells text) (same_Some a v is) front
whole_sound Spells text v (Some (a, c ∷ rest)) sound is =
    absurd (none-some v (sym (ap (λ b. cond b (Some a) None) (ne_eqb (length (c ∷ rest)) 0 (omega arith))) ∙ is))

dotted_whole : (text octets : List ℕ) → IsDotted text octets → whole_value (read_ipv4 text) ≡ Some octets
dotted_whole text octets h =
    ap whole_value (ap read_ipv4 (sym (append-nil text)) ∙ read_ipv4_complete text octets [] h (lit≤ tt))

hex_whole : (text groups : List ℕ) → IsColonHex text groups → whole_value (read_ipv6 text) ≡ Some groups
hex_whole text groups h =
    ap whole_value (ap read_ipv6 (sym (append-nil text)) ∙ read_ipv6_complete text groups [] h EndsGroups-nil)

abbrev IsDottedText : List ℕ → IpAddr → Type 0
IsDottedText text ip = IsIpText text ip × (is_ipv6 ip ≡ false)

dotted_reads : (text : List ℕ) (r : Option (List ℕ)) → whole_value (read_ipv4 text) ≡ r →
    Reads IsDottedText text (option_map (λ octets. V4 (record { octets = octets })) r)
dotted_reads text None is = no_dotted
  where
    no_dotted : (ip : IpAddr) → ¬ (IsDottedText text ip)
    no_dotted (V4 a) h = none-some _ (sym is ∙ dotted_whole text _ h.0)
    no_dotted (V6 a) h = true≢false h.1
dotted_reads text (Some octets) is = (whole_sound IsDotted text octets (read_ipv4 text) (read_ipv4_sound text) is, refl)

ip_reads : (text : List ℕ) (r q : Option (List ℕ)) → whole_value (read_ipv4 text) ≡ r →
    whole_value (read_ipv6 text) ≡ q →
    Reads IsIpText text (option_or (option_map (λ octets. V4 (record { octets = octets })) r)
    (option_map (λ groups. V6 (record { segments = groups })) q))
ip_reads text None None is also = none
  where
    none : (ip : IpAddr) → ¬ (IsIpText text ip)
    none (V4 a) h = none-some _ (sym is ∙ dotted_whole text _ h)
    none (V6 a) h = none-some _ (sym also ∙ hex_whole text _ h)
ip_reads text None (Some groups) is also =
    whole_sound IsColonHex text groups (read_ipv6 text) (read_ipv6_sound text) also
ip_reads text (Some octets) q is also = whole_sound IsDotted text octets (read_ipv4 text) (read_ipv4_sound text) is

ip_in-reads : (text : List ℕ) → Reads IsIpText text (ip_in text)
unfolding ip_in
ip_in-reads text = ip_reads text _ _ refl refl

-- ## Addresses

of_mapped : (ip : IpAddr) → MatchOption (address_of ip) (IsMapped ip) (λ a. (ip_of a ≡ ip) × (¬ (IsMapped ip)))
of_mapped (V4 a) = (refl, λ h. h)
of_mapped (V6 a) =
    let mapped : List ℕ = 0 ∷ 0 ∷ 0 ∷ 0 ∷ 0 ∷ 0xffff ∷ [] in
    let front = take 6 (ipv6_segments a) in
    elim (cases_Bool (bytes_eq front mapped)) [
      | inl yes' ↦ rw yes' ((bytes_eq-Decides front mapped).0 yes')
      | inr no' ↦ rw no' (refl, λ h. true≢false (sym ((bytes_eq-Decides front mapped).1 h) ∙ no'))
    ]

of_ip : (text : List ℕ) (r : Option IpAddr) → Reads IsIpText text r →
    Reads IsAddressText text (option_and_then address_of r)
of_ip text None none = reads_none text none
of_ip text (Some ip) is = reads_new text ip (address_of ip) is (of_mapped ip)

pub address_in-reads : (text : List ℕ) → Reads IsAddressText text (address_in text)
unfolding address_in
address_in-reads text = of_ip text (ip_in text) (ip_in-reads text)

pub is_address_in : (text : List ℕ) (r : Option Address) → Reads IsAddressText text r → r ≡ address_in text
is_address_in text r reads =
    same_answer IsAddressText text r (address_in text) (one_address text) reads (address_in-reads text)

-- ## Hosts

dotted_address : (text : List ℕ) (r : Option IpAddr) → Reads IsDottedText text r →
    Reads (IsTextOfKind false) text (option_and_then address_of r)
dotted_address text None none = λ a h. none (ip_of a) (h.states.spelled, h.kind)
dotted_address text (Some (V4 a)) is =
    record { states = record { spelled = is.0; unmapped = λ h. h }; kind = refl }
dotted_address text (Some (V6 a)) is = absurd (true≢false is.1)

no_byte : (byte : ℕ) (text rest : List ℕ) → read_byte byte text ≡ None → text ≢ byte ∷ rest
no_byte byte text rest none is =
    none-some rest (sym none ∙ ap (read_byte byte) is ∙ ap (λ b. cond b (Some rest) None) (eq-eqb byte byte refl))

kind_new : (text : List ℕ) (ip : IpAddr) (kind : Bool) → is_ipv6 ip ≡ kind → IsIpText text ip → (r : Option Address) →
    MatchOption r (IsMapped ip) (λ a. (ip_of a ≡ ip) × (¬ (IsMapped ip))) → Reads (IsTextOfKind kind) text r
kind_new text ip kind same is None mapped = λ a h. reads_new text ip None is mapped a h.states
kind_new text ip kind same is (Some a) new =
    record { states = reads_new text ip (Some a) is new; kind = ap is_ipv6 new.0 ∙ same }

ends_bracket : EndsGroups (93 ∷ [])
ends_bracket = ((lit≤ tt, omega arith), λ colon. absurd (omega (arith, colon)))

-- what std reads of a text that a bracket ends
bracket_read : (inner t : List ℕ) (ip : IpAddr) → inner ≡ t ++ 93 ∷ [] → is_ipv6 ip ≡ true → IsIpText t ip →
    (groups : List ℕ) × (ip ≡ V6 (record { segments = groups })) × (read_ipv6 inner ≡ Some (groups, 93 ∷ []))
bracket_read inner t (V4 a) inside kind is = absurd (true≢false (sym kind))
bracket_read inner t (V6 a) inside kind is =
    (ipv6_segments a, refl, ap read_ipv6 inside ∙ read_ipv6_complete t (ipv6_segments a) (93 ∷ []) is ends_bracket)

closed_reads : (text inner : List ℕ) → text ≡ 91 ∷ inner → (r : Option (List ℕ × List ℕ)) → read_ipv6 inner ≡ r →
    Reads IsHostText text (option_and_then closed r)
closed_reads text inner is None read =
    reads_no_inner text inner is (λ t a inside kind states.
    none-some _ (sym read ∙ (bracket_read inner t (ip_of a) inside kind states.spelled).2))
closed_reads text inner is (Some p) read =
    elim (cases_Bool (bytes_eq p.1 (93 ∷ []))) [
      | inl yes' ↦ (
          let front = read_ipv6_sound inner p.0 p.1 read in
          let ip : IpAddr = V6 (record { segments = p.0 }) in
          let behind : p.1 ≡ 93 ∷ [] = (bytes_eq-Decides p.1 (93 ∷ [])).0 yes' in
          rw yes' (reads_bracketed text inner front.0 (address_of ip) is (front.1 ∙ ap (λ l. front.0 ++ l) behind)
          (kind_new front.0 ip true refl front.2 (address_of ip) (of_mapped ip))))
      | inr no' ↦ rw no' (reads_no_inner text inner is (λ t a inside kind states. (
          let whole = bracket_read inner t (ip_of a) inside kind states.spelled in
          let behind : p.1 ≡ 93 ∷ [] = ap (λ (q : List ℕ × List ℕ). q.1) (same_Some p _ (sym read ∙ whole.2)) in
          true≢false (sym ((bytes_eq-Decides p.1 (93 ∷ [])).1 behind) ∙ no'))))
    ]

host_at : (text : List ℕ) (r : Option (List ℕ)) → read_byte 91 text ≡ r →
    Reads IsHostText text
    (map_or r (option_and_then address_of (ipv4_in text)) (λ inner. option_and_then closed (read_ipv6 inner)))
host_at text None none =
    reads_plain text _ (λ rest. no_byte 91 text rest none)
    (dotted_address text (ipv4_in text) (dotted_reads text (whole_value (read_ipv4 text)) refl))
host_at text (Some inner) is = closed_reads text inner (read_byte_sound 91 text inner is) (read_ipv6 inner) refl

pub host_in-reads : (text : List ℕ) → Reads IsHostText text (host_in text)
unfolding host_in
host_in-reads text = host_at text (read_byte 91 text) refl

-- ## Endpoints

pub both_read : (text host port : List ℕ) → text ≡ host ++ 58 ∷ port → Lacks 58 port → (ip : Option Address) →
    Reads IsHostText host ip → (number : Option ℕ) → decimal_in 1 65535 port ≡ number →
    Reads IsEndpointText text (endpoint_from ip number)
both_read text host port cut lacks None none number is = reads_no_host text host port cut lacks none
both_read text host port cut lacks (Some a) states None is = reads_no_port text host port cut lacks is
both_read text host port cut lacks (Some a) states (Some n) is =
    reads_both text host port cut lacks (record { ip = a; port = n }) states is

cut_reads : (text : List ℕ) (cut : Option (List ℕ × List ℕ)) →
    MatchOption cut (Lacks 58 text) (λ parts. (text ≡ parts.0 ++ 58 ∷ parts.1) × Lacks 58 parts.1) →
    Reads IsEndpointText text
    (option_and_then (λ parts. endpoint_from (host_in parts.0) (decimal_in 1 65535 parts.1)) cut)
cut_reads text None lacks = reads_no_colon text lacks
cut_reads text (Some parts) cut =
    both_read text parts.0 parts.1 cut.0 cut.1 (host_in parts.0) (host_in-reads parts.0)
    (decimal_in 1 65535 parts.1) refl

pub endpoint_in-reads : (text : List ℕ) → Reads IsEndpointText text (endpoint_in text)
unfolding endpoint_in
endpoint_in-reads text = cut_reads text (cut_last 58 text) (cut_last-parts 58 text)

pub port_in : (text : List ℕ) (r : Option Endpoint) → Reads IsEndpointText text r → IfSome r (λ e. 1 ≤ e.port)
port_in text None none = tt
port_in text (Some e) states = decimal_in-least 1 65535 states.port e.port states.number

-- the port of an endpoint that a text states isn't 0
pub endpoint_in-port : (text : List ℕ) (e : Endpoint) → endpoint_in text ≡ Some e → 1 ≤ e.port
endpoint_in-port text e is = rw is at (port_in text (endpoint_in text) (endpoint_in-reads text))

pub is_endpoint_in : (text : List ℕ) (r : Option Endpoint) → Reads IsEndpointText text r → r ≡ endpoint_in text
is_endpoint_in text r reads =
    same_answer IsEndpointText text r (endpoint_in text) (one_endpoint text) reads (endpoint_in-reads text)

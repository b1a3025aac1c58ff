-- The text of an endpoint.
use Rattle.std.proofs.Common.{◌≡◌, ℕ, ◌<◌, ◌≤◌, ◌^◌, List, [], ◌∷◌, ◌++◌, append_assoc, Some, None, decimal, refl, sym, ap, ◌∙◌, subst, arith}
use Rattle.std.proofs.lemmas.Option.{same_Some}
use Rattle.roam_address.specs.declared.endpoint.Endpoint.{Endpoint}
use Rattle.roam_address.specs.Addresses.{IsHostText, IsAddressText, as_host, address_text}
use Rattle.roam_address.specs.Decimals.{decimal_in}
use Rattle.roam_address.specs.Endpoints.{IsEndpointText, endpoint_text}
use Rattle.roam_address.specs.Reading.{Reads}
use Rattle.roam_address.proofs.DecimalLemmas.{decimal_lacks, decimal_in-decimal}
use Rattle.roam_address.proofs.HostLemmas.{one_host, host_of}
use Rattle.roam_address.proofs.SplitLemmas.{Lacks, not_lacking, one_cut}

-- a colon stands before the port
spelled_at : (text : List ℕ) (e : Endpoint) (h : IsEndpointText text e) → text ≡ h.host ++ 58 ∷ h.port
spelled_at text e h = h.spelled ∙ append_assoc h.host (58 ∷ []) h.port

lacks_port : (text : List ℕ) (e : Endpoint) (h : IsEndpointText text e) → Lacks 58 h.port
lacks_port text e h = decimal_lacks 58 1 65535 h.port e.port refl h.number

-- a text without a colon
pub reads_no_colon : (text : List ℕ) → Lacks 58 text → Reads IsEndpointText text None
reads_no_colon text lacks = λ e h. not_lacking 58 h.host h.port (subst (Lacks 58) (spelled_at text e h) lacks)

-- a text cut at its last colon
module _ (text host port : List ℕ) (cut : text ≡ host ++ 58 ∷ port) (lacks : Lacks 58 port) where
  same_cut : (e : Endpoint) (h : IsEndpointText text e) → (h.host ≡ host) × (h.port ≡ port)
  same_cut e h = one_cut 58 h.host h.port host port (lacks_port text e h) lacks (sym (spelled_at text e h) ∙ cut)

  pub reads_no_host : Reads IsHostText host None → Reads IsEndpointText text None
  reads_no_host none = λ e h. none e.ip (subst (λ (t : List ℕ). IsHostText t e.ip) (same_cut e h).0 h.address)

  pub reads_no_port : decimal_in 1 65535 port ≡ None → Reads IsEndpointText text None
  reads_no_port none = λ e h.
      let number : None ≡ Some e.port = sym none ∙ ap (decimal_in 1 65535) (sym (same_cut e h).1) ∙ h.number in cc

  pub reads_both : (e : Endpoint) → IsHostText host e.ip → decimal_in 1 65535 port ≡ Some e.port → IsEndpointText text e
  reads_both e address number = record {
    host = host;
    port = port;
    spelled = cut ∙ sym (append_assoc host (58 ∷ []) port);
    address = address;
    number = number;
  }

same_parts : (e f : Endpoint) → e.ip ≡ f.ip → e.port ≡ f.port → e ≡ f
same_parts e f ip port = λ i. record { ip = ip i; port = port i }

-- a text states one endpoint at most
pub one_endpoint : (text : List ℕ) (e f : Endpoint) → IsEndpointText text e → IsEndpointText text f → e ≡ f
one_endpoint text e f h k =
    let cut = one_cut 58 h.host h.port k.host k.port (lacks_port text e h) (lacks_port text f k)
    (sym (spelled_at text e h) ∙ spelled_at text f k) in
    same_parts e f
    (one_host k.host e.ip f.ip (subst (λ (t : List ℕ). IsHostText t e.ip) cut.0 h.address) k.address)
    (same_Some e.port f.port (sym h.number ∙ ap (decimal_in 1 65535) cut.1 ∙ k.number))

-- what is printed of an endpoint states it
pub endpoint_printed : (e : Endpoint) → IsAddressText (address_text e.ip) e.ip → 1 ≤ e.port → e.port < 2 ^ 16 →
    IsEndpointText (endpoint_text e) e
endpoint_printed e states low high = record {
  host = as_host e.ip (address_text e.ip);
  port = decimal e.port;
  spelled = refl;
  address = host_of (address_text e.ip) e.ip states;
  number = decimal_in-decimal 1 65535 e.port low (omega (arith, high)) (omega (arith, high));
}

-- A text states one address at most, and what is printed of an address states it.
use Rattle.std.proofs.Common.{◌≡◌, ℕ, List, [], ◌∷◌, append-nil, Option, Some, None, MatchOption, sym, ap, ◌∙◌, subst, arith, lit≤}
use Rattle.std.proofs.lemmas.Option.{none-some}
use Rattle.std.specs.declared.net.ip_addr.IpAddr.{IpAddr}
use Rattle.std.specs.declared.net.ip_addr.IpAddr.TheVariants.{V4, V6}
use Rattle.std.specs.Net.Grammar.{IsDotted, IsIpText}
use Rattle.std.specs.Net.Reader.{read_ipv4}
use Rattle.std.proofs.NetLemmas.Ipv4.{read_ipv4_none, read_ipv4_complete}
use Rattle.std.proofs.NetLemmas.Texts.{IsDotted-ipv4_text, IsColonHex-hex_groups_text}
use Rattle.std.proofs.NetLemmas.Theorems.{IsIpText_unique}
use Rattle.roam_address.specs.declared.address.Address.{Address}
use Rattle.roam_address.specs.Addresses.{ip_of, IsMapped, IsRanged, IsAddressText, ip_text, address_text}
use Rattle.roam_address.specs.Reading.{Reads}

pub same_address : (a b : Address) → ip_of a ≡ ip_of b → a ≡ b
same_address a b same = λ i. record { ip = same i }

pub one_address : (text : List ℕ) (a b : Address) → IsAddressText text a → IsAddressText text b → a ≡ b
one_address text a b h k = same_address a b (IsIpText_unique text (ip_of a) (ip_of b) h.spelled k.spelled)

-- a text that std reads: an address where it doesn't stand for one of IPv4
pub reads_new : (text : List ℕ) (ip : IpAddr) (r : Option Address) → IsIpText text ip →
    MatchOption r (IsMapped ip) (λ a. (ip_of a ≡ ip) × (¬ (IsMapped ip))) → Reads IsAddressText text r
reads_new text ip None is mapped =
    λ a h. h.unmapped (subst IsMapped (IsIpText_unique text ip (ip_of a) is h.spelled) mapped)
reads_new text ip (Some a) is new = record {
  spelled = subst (IsIpText text) (sym new.0) is;
  unmapped = λ mapped. new.1 (subst IsMapped new.0 mapped);
}

-- a text that std doesn't read
pub reads_none : (text : List ℕ) → ((ip : IpAddr) → ¬ (IsIpText text ip)) → Reads IsAddressText text None
reads_none text none = λ a h. none (ip_of a) h.spelled

states_ip : (ip : IpAddr) → IsRanged ip → IsIpText (ip_text ip) ip
states_ip (V4 a) ranged = IsDotted-ipv4_text _ ranged.0 ranged.1
states_ip (V6 a) ranged = IsColonHex-hex_groups_text _ ranged.0 ranged.1

-- what is printed of an address states it
pub printed_states : (a : Address) → IsRanged (ip_of a) → ¬ (IsMapped (ip_of a)) → IsAddressText (address_text a) a
printed_states a ranged unmapped = record { spelled = states_ip (ip_of a) ranged; unmapped = unmapped }

-- equal texts are of equal addresses
pub equal_texts : (a b : Address) → IsRanged (ip_of a) → IsRanged (ip_of b) → address_text a ≡ address_text b → a ≡ b
equal_texts a b one other same =
    same_address a b (IsIpText_unique (address_text b) (ip_of a) (ip_of b)
    (subst (λ (text : List ℕ). IsIpText text (ip_of a)) same (states_ip (ip_of a) one)) (states_ip (ip_of b) other))

-- what reads a text that states one value alone finds this value
pub read_back : {A : Type 0} (States : List ℕ → A → Type 0) (text : List ℕ) (a : A) (read : Option A) →
    ((x : A) → States text x → x ≡ a) → States text a → Reads States text read → read ≡ Some a
read_back States text a None one is none = absurd (none a is)
read_back States text a (Some x) one is reads = ap Some (one x reads)

-- an IPv4 address doesn't begin with a bracket
pub not_bracket : (rest octets : List ℕ) → ¬ (IsDotted (91 ∷ rest) octets)
not_bracket rest octets h =
    none-some _ (sym (read_ipv4_none [] (91 ∷ rest) tt (lit≤ tt) (omega arith))
    ∙ ap read_ipv4 (sym (append-nil (91 ∷ rest))) ∙ read_ipv4_complete (91 ∷ rest) octets [] h (lit≤ tt))

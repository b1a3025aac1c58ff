-- The meaning of a single TOML value: a number, a text, an address, an endpoint, a seed, an array. Ours.
use Rattle.std.specs.Prelude.{ℕ, suc, pos, ◌&&◌, ◌==◌, not, nat_le, Bool, true, false, if◌then◌else◌, codes, List, [], ◌∷◌, take, drop, length, Option, Some, None, option_map, option_and_then}
use Rattle.std.specs.Char.{is_ascii_digit}
use Rattle.std.specs.List.{list_all, repeat}
use Rattle.std.specs.Result.{result_ok}
use Rattle.std.specs.Str.{bytes_eq}
use Rattle.hex.specs.Hex.{decode_sized}
use Rattle.toml.specs.Data.{Data, string, integer, boolean, array, Items, no_items, item, Members, get_member}
use Rattle.roam_wire.specs.declared.removed_attribute.RemovedAttribute.{RemovedAttribute}
use Rattle.roam_conf.specs.declared.accounting.Accounting.{Accounting}
use Rattle.roam_conf.specs.declared.accounting.Accounting.TheVariants as kinds
use Rattle.roam_address.specs.declared.endpoint.Endpoint.{Endpoint}
use Rattle.roam_conf.specs.declared.exchange_lines.ExchangeLines.{ExchangeLines}
use Rattle.roam_conf.specs.declared.exchange_lines.ExchangeLines.TheVariants as lines
use Rattle.roam_conf_reader.specs.declared.station_word.StationWord.{StationWord}
use Rattle.roam_conf_reader.specs.declared.station_word.StationWord.TheVariants as station
use Rattle.roam_conf_reader.specs.declared.values.Letters.{Letters}
use Rattle.roam_conf_reader.specs.declared.values.Letters.TheVariants.{Any, NoZero, Digit, PeerName, RealmName}
use Rattle.roam_conf.specs.Config.{PatternView, whole, suffix, any}
use Rattle.roam_conf.specs.Letters.{is_peer_letter, is_realm_letter}
use Rattle.roam_conf.specs.Patterns.{is_realm_name, is_reject}
use Rattle.roam_address.specs.declared.address.Address.{Address}
use Rattle.roam_address.specs.Addresses.{ip_of, ipv4_octets_in, ipv6_octets_in}
use Rattle.roam_address.specs.Prefixes.{PrefixView}
use Rattle.roam_address.specs.Texts.{address_in, endpoint_in, prefix_in}
use Rattle.roam_conf.specs.Texts.{removed_in}

-- an integer from `least` to `most`
unfoldable pub number : ℕ → ℕ → Data → Option ℕ
number least most (integer (pos n)) = if nat_le least n && nat_le n most then Some n else None
number least most _ = None

-- the octets that a text may have: any, any but 0, digits, those of a peer's name, those of a realm's name
abbrev pub letters_of : Letters → ℕ → Bool
letters_of Any = λ octet. true
letters_of NoZero = λ octet. not (octet == 0)
letters_of Digit = is_ascii_digit
letters_of PeerName = is_peer_letter
letters_of RealmName = is_realm_letter

-- 1 to `most` octets, each of which `letters` admits
unfoldable pub text_fits : ℕ → (ℕ → Bool) → List ℕ → Bool
text_fits most letters octets =
    nat_le 1 (length octets) && nat_le (length octets) most && list_all letters octets

-- a text of 1 to `most` octets, each of which `letters` admits
unfoldable pub text : ℕ → (ℕ → Bool) → Data → Option (List ℕ)
text most letters (string octets) = if text_fits most letters octets then Some octets else None
text most letters _ = None

-- a path that the address of a UNIX socket has room for: 1 to 107 octets, none of them 0
abbrev pub socket_path : Data → Option (List ℕ)
socket_path = text 107 (letters_of NoZero)

-- a path of a file: 1 to 1024 octets, none of them 0
abbrev pub file_path : Data → Option (List ℕ)
file_path = text 1024 (letters_of NoZero)

-- the namespace of an Operator-Name: a text of one digit (RFC 5580, section 4.1)
abbrev pub namespace : Data → Option (List ℕ)
namespace = text 1 (letters_of Digit)

-- a text that is an address
unfoldable pub address : Data → Option Address
address (string octets) = address_in octets
address _ = None

-- a text that is an address of IPv4; one that is an address of IPv6; of both the octets are taken
unfoldable pub ipv4 : Data → Option (List ℕ)
ipv4 (string octets) = option_and_then (λ a. ipv4_octets_in (ip_of a)) (address_in octets)
ipv4 _ = None

unfoldable pub ipv6 : Data → Option (List ℕ)
ipv6 (string octets) = option_and_then (λ a. ipv6_octets_in (ip_of a)) (address_in octets)
ipv6 _ = None

-- a text that is a prefix, or an address: the prefix that has it alone
unfoldable pub prefix : Data → Option PrefixView
prefix (string octets) = prefix_in octets
prefix _ = None

-- a text that is an endpoint
unfoldable pub endpoint : Data → Option Endpoint
endpoint (string octets) = endpoint_in octets
endpoint _ = None

-- a text of 64 hexadecimal digits, of either case: 32 octets
unfoldable pub seed : Data → Option (List ℕ)
seed (string digits) = result_ok (decode_sized digits 32)
seed _ = None

-- such a text, and 32 zeros where it is absent
unfoldable pub seed_or_zeros : Option Data → Option (List ℕ)
seed_or_zeros None = Some (repeat 32 (0 ∷ []))
seed_or_zeros (Some found) = seed found

-- a boolean, false where it is absent
unfoldable pub flag : Option Data → Option Bool
flag None = Some false
flag (Some (boolean b)) = Some b
flag (Some _) = None

-- of which exchanges lines tell: `all`, which is true; `final`; `none`, which is false; all where the key is absent
unfoldable pub exchange_lines_in : List ℕ → Option ExchangeLines
exchange_lines_in octets =
    if bytes_eq octets (codes "all") then Some lines.OfAll
    else if bytes_eq octets (codes "final") then Some lines.OfFinal
    else if bytes_eq octets (codes "none") then Some lines.OfNone else None

unfoldable pub exchange_lines : Option Data → Option ExchangeLines
exchange_lines None = Some lines.OfAll
exchange_lines (Some (boolean true)) = Some lines.OfAll
exchange_lines (Some (boolean false)) = Some lines.OfNone
exchange_lines (Some (string octets)) = exchange_lines_in octets
exchange_lines (Some _) = None

-- how lines have a station: `clear`, also where the key is absent, or `hmac`
unfoldable pub station_word_in : List ℕ → Option StationWord
station_word_in octets =
    if bytes_eq octets (codes "clear") then Some station.Clear
    else if bytes_eq octets (codes "hmac") then Some station.Hmac else None

unfoldable pub station_word : Option Data → Option StationWord
station_word None = Some station.Clear
station_word (Some (string octets)) = station_word_in octets
station_word (Some _) = None

-- an integer from `least` to `most`, and this one where it is absent
unfoldable pub number_or : ℕ → ℕ → ℕ → Option Data → Option ℕ
number_or default least most None = Some default
number_or default least most (Some found) = number least most found

-- what a text says beside a realm's name: `*` (42), `*.` (42, 46) and a name, or a name
unfoldable pub pattern_in : List ℕ → Option PatternView
pattern_in octets =
    if bytes_eq octets (42 ∷ []) then Some any
    else if bytes_eq (take 2 octets) (42 ∷ 46 ∷ [])
    then (if is_realm_name (drop 2 octets) then Some (suffix (drop 2 octets)) else None)
    else if is_realm_name octets then Some (whole octets) else None

-- a text that says one
unfoldable pub pattern : Data → Option PatternView
pattern (string octets) = pattern_in octets
pattern _ = None

-- the first and the others, if they are there
abbrev pub cons_if_both : {V : Type 0} → Option V → Option (List V) → Option (List V)
cons_if_both (Some value) (Some values) = Some (value ∷ values)
cons_if_both _ _ = None

-- items of which each states a value
abbrev pub each_of : {V : Type 0} → (Data → Option V) → Items → Option (List V)
each_of reads no_items = Some []
each_of reads (item found items) = cons_if_both (reads found) (each_of reads items)

-- how many items an array has
abbrev pub item_count : Items → ℕ
item_count no_items = 0
item_count (item found items) = suc (item_count items)

-- the list of this one, if it is there
abbrev pub one_of : {V : Type 0} → Option V → Option (List V)
one_of found = option_map (λ value. value ∷ []) found

-- an endpoint, or an array of 1 to `most` endpoints
unfoldable pub endpoints : ℕ → Data → Option (List Endpoint)
endpoints most (array items) =
    if nat_le 1 (item_count items) && nat_le (item_count items) most then each_of endpoint items else None
endpoints most found = one_of (endpoint found)

-- a prefix, or an array of 1 to 8 prefixes
unfoldable pub prefixes : Data → Option (List PrefixView)
prefixes (array items) =
    if nat_le 1 (item_count items) && nat_le (item_count items) 8 then each_of prefix items else None
prefixes found = one_of (prefix found)

-- as many endpoints; none where they are absent
abbrev pub endpoints_if_there : ℕ → Option Data → Option (List Endpoint)
endpoints_if_there most None = Some []
endpoints_if_there most (Some found) = endpoints most found

-- an array of 1 to `most` items
unfoldable pub array_of : ℕ → Data → Option Items
array_of most (array items) = if nat_le 1 (item_count items) && nat_le (item_count items) most then Some items else None
array_of most _ = None

-- an array of at most `most` items of which each states a value; none where it is absent
unfoldable pub list_of : {V : Type 0} → (Data → Option V) → ℕ → Option Data → Option (List V)
list_of reads most None = Some []
list_of reads most (Some (array items)) = if nat_le (item_count items) most then each_of reads items else None
list_of reads most (Some _) = None

-- what passes a test
abbrev pub passing : {V : Type 0} → (V → Bool) → Option V → Option V
passing test None = None
passing test (Some value) = if test value then Some value else None

-- names and suffixes that no realm has: at most 1024
abbrev pub rejects : Option Data → Option (List PatternView)
rejects found = passing (list_all is_reject) (list_of pattern 1024 found)

-- a text that names an attribute which such a list may name
unfoldable pub removed : (RemovedAttribute → Bool) → Data → Option RemovedAttribute
removed may_name (string octets) = passing may_name (removed_in octets)
removed may_name _ = None

-- the further NAS-Identifiers of a peer: at most 1024 texts of 1 to 253 octets; none where they are absent
abbrev pub nas_ids : Option Data → Option (List (List ℕ))
nas_ids found = list_of (text 253 (letters_of Any)) 1024 found

-- the names of peers: an array of 1 to 1024 texts of 1 to 64 octets
unfoldable pub peer_names : Data → Option (List (List ℕ))
peer_names (array items) =
    if nat_le 1 (item_count items) && nat_le (item_count items) 1024
    then each_of (text 64 (letters_of Any)) items else None
peer_names _ = None

-- what becomes of accounting; it is forwarded where the key is absent
unfoldable pub accounting_in : List ℕ → Option Accounting
accounting_in octets =
    if bytes_eq octets (codes "forward") then Some kinds.Forwarded
    else if bytes_eq octets (codes "answer") then Some kinds.Answered
    else if bytes_eq octets (codes "drop") then Some kinds.Dropped else None

unfoldable pub accounting : Option Data → Option Accounting
accounting None = Some kinds.Forwarded
accounting (Some (string octets)) = accounting_in octets
accounting (Some _) = None

-- whether the user decides with which server a request's targets begin; not where the key is absent
unfoldable pub balance_in : List ℕ → Option Bool
balance_in octets =
    if bytes_eq octets (codes "order") then Some false
    else if bytes_eq octets (codes "user") then Some true else None

unfoldable pub balance : Option Data → Option Bool
balance None = Some false
balance (Some (string octets)) = balance_in octets
balance (Some _) = None

-- what a required key states
abbrev pub value_at : {V : Type 0} → (Data → Option V) → List ℕ → Members → Option V
value_at reads key members = option_and_then reads (get_member key members)

-- what an optional key states: None where it is absent
abbrev pub if_there : {V : Type 0} → (Data → Option V) → Option Data → Option (Option V)
if_there reads None = Some None
if_there reads (Some found) = option_map (λ value. Some value) (reads found)

abbrev pub optional_at : {V : Type 0} → (Data → Option V) → List ℕ → Members → Option (Option V)
optional_at reads key members = if_there reads (get_member key members)

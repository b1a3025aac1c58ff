-- What stands as endpoints: as many as may be, each with a port.
use Rattle.std.proofs.Common.{◌≡◌, ◌≤◌, ℕ, Bool, true, false, cond, List, [], ◌∷◌, ◌&&◌, length, Option, Some, None, refl, arith}
use Rattle.std.proofs.lemmas.Bool.{and_parts}
use Rattle.std.proofs.lemmas.Bool.Decides.{nat_tests}
use Rattle.std.proofs.lemmas.Option.{option_and_then_some, same_Some}
use Rattle.std.specs.List.{list_all}
use Rattle.std.specs.Prelude.{nat_le}
use Rattle.toml.specs.Data.{Data, array, Members, get_member}
use Rattle.roam_address.specs.declared.endpoint.Endpoint.{Endpoint}
use Rattle.roam_conf.specs.Ways.{has_port}
use Rattle.roam_conf_reader.specs.Values.{each_of, endpoint, endpoints, endpoints_if_there, item_count, one_of, value_at}
use Rattle.roam_conf_reader.proofs.ListLemmas.{each_passes}
use Rattle.roam_conf_reader.proofs.RangeLemmas.{endpoint_range}

port_there : (found : Data) (e : Endpoint) → endpoint found ≡ Some e → has_port e ≡ true
port_there found e is = let least = endpoint_range found e is in grind (arith, nat_tests, least)

pub record AreEndpoints (most : ℕ) (es : List Endpoint) : Type 0 where
  pub size : (1 ≤ length es) × (length es ≤ most)
  pub ports : list_all has_port es ≡ true

one_there : (most : ℕ) (o : Option Endpoint) (es : List Endpoint) → 1 ≤ most
    → ((e : Endpoint) → o ≡ Some e → has_port e ≡ true) → one_of o ≡ Some es → AreEndpoints most es
one_there most None es some has is = cc
one_there most (Some e) es some has is =
    rw (← same_Some (e ∷ []) es is) (record { size = (omega arith, some); ports = rw (has e refl) refl })

if_some : (b : Bool) (o : Option (List Endpoint)) (es : List Endpoint) → cond b o None ≡ Some es
    → (b ≡ true) × (o ≡ Some es)
if_some true o es h = (refl, h)
if_some false o es h = absurd (cc h)

endpoints_range : (most : ℕ) (value : Data) (es : List Endpoint) → 1 ≤ most → endpoints most value ≡ Some es
    → AreEndpoints most es
unfolding endpoints
endpoints_range most (array items) es some is =
    let both = if_some (nat_le 1 (item_count items) && nat_le (item_count items) most) (each_of endpoint items) es is in
    let tests = and_parts (nat_le 1 (item_count items)) (nat_le (item_count items) most) both.0 in
    let read = each_passes endpoint has_port port_there items es both.1 in
    record {
      size = (grind (arith, nat_tests, read.count, tests.0), grind (arith, nat_tests, read.count, tests.1));
      ports = read.all;
    }
endpoints_range most value es some is = one_there most (endpoint value) es some (port_there value) is

-- those of a key
pub endpoints_at : (most : ℕ) (key : List ℕ) (members : Members) (es : List Endpoint) → 1 ≤ most
    → value_at (endpoints most) key members ≡ Some es → AreEndpoints most es
endpoints_at most key members es some is =
    option_and_then_some (endpoints most) (get_member key members) es is
    (λ value there states. endpoints_range most value es some states)

-- and of one that may be absent
pub endpoints_if : (most : ℕ) (found : Option Data) (es : List Endpoint) → 1 ≤ most
    → endpoints_if_there most found ≡ Some es → (length es ≤ most) × (list_all has_port es ≡ true)
endpoints_if most None es some is = rw (← same_Some [] es is) (omega arith, refl)
endpoints_if most (Some value) es some is =
    let all = endpoints_range most value es some is in (all.size.1, all.ports)

-- What stands as the prefixes of a peer: 1 to 8.
use Rattle.std.proofs.Common.{◌≡◌, ◌≤◌, ℕ, Bool, true, false, cond, List, [], ◌∷◌, ◌&&◌, length, Option, Some, None, refl, arith}
use Rattle.std.proofs.lemmas.Bool.{and_parts}
use Rattle.std.proofs.lemmas.Bool.Decides.{nat_tests}
use Rattle.std.proofs.lemmas.Option.{option_and_then_some, same_Some}
use Rattle.std.specs.Prelude.{nat_le}
use Rattle.toml.specs.Data.{Data, array, Members, get_member}
use Rattle.roam_address.specs.Prefixes.{PrefixView}
use Rattle.roam_conf_reader.specs.Values.{each_of, item_count, one_of, prefix, prefixes, value_at}
use Rattle.roam_conf_reader.proofs.ListLemmas.{each_passes}

-- so many as a peer may have
abbrev pub FewPrefixes : List PrefixView → Type 0
FewPrefixes ps = (1 ≤ length ps) × (length ps ≤ 8)

one_there : (o : Option PrefixView) (ps : List PrefixView) → one_of o ≡ Some ps → FewPrefixes ps
one_there None ps is = cc
one_there (Some p) ps is = rw (← same_Some (p ∷ []) ps is) (omega arith, omega arith)

if_some : (b : Bool) (o : Option (List PrefixView)) (ps : List PrefixView) → cond b o None ≡ Some ps
    → (b ≡ true) × (o ≡ Some ps)
if_some true o ps h = (refl, h)
if_some false o ps h = absurd (cc h)

prefixes_range : (value : Data) (ps : List PrefixView) → prefixes value ≡ Some ps → FewPrefixes ps
unfolding prefixes
prefixes_range (array items) ps is =
    let both = if_some (nat_le 1 (item_count items) && nat_le (item_count items) 8) (each_of prefix items) ps is in
    let tests = and_parts (nat_le 1 (item_count items)) (nat_le (item_count items) 8) both.0 in
    let read = each_passes prefix (λ p. true) (λ found p there. refl) items ps both.1 in
    (grind (arith, nat_tests, read.count, tests.0), grind (arith, nat_tests, read.count, tests.1))
prefixes_range value ps is = one_there (prefix value) ps is

-- those of a key
pub prefixes_at : (key : List ℕ) (members : Members) (ps : List PrefixView)
    → value_at prefixes key members ≡ Some ps → FewPrefixes ps
prefixes_at key members ps is =
    option_and_then_some prefixes (get_member key members) ps is (λ value there states. prefixes_range value ps states)

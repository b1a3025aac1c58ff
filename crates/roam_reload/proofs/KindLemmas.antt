-- The kinds of the broker's own places in two configurations.
use Rattle.std.proofs.Common.{◌≡◌, ◌≢◌, ℕ, suc, ◌+◌, ◌<◌, Bool, true, false, not, ◌||◌, List, [], ◌∷◌, map, length, get_or, drop, Some, None, refl, sym, ap, subst, inl, inr, ◌∙◌, add-one, drop-cons}
use Rattle.std.proofs.lemmas.Bool.{cases_Bool, true≢false, false≢true, or_cases, or_parts, or_left, or_right}
use Rattle.std.proofs.lemmas.List.Folds.{find-append, list_any-append}
use Rattle.std.proofs.lemmas.Option.{none-some, same_Some}
use Rattle.std.specs.List.{find, flat_map}
use Rattle.std.specs.Option.{option_or}
use Rattle.std.specs.Prelude.{if◌then◌else◌}
use Rattle.roam_conf.specs.Config.{ConfigView, RealmView}
use Rattle.roam_conf.specs.Duplicates.{is_among, same_endpoint}
use Rattle.roam_conf.specs.Parts.{shown_realm}
use Rattle.roam_conf.specs.declared.realm.Realm.{Realm}
use Rattle.roam_address.specs.declared.endpoint.Endpoint.{Endpoint}
use Rattle.roam_conf.proofs.EqualPartsLemmas.{endpoint_decides}
use Rattle.roam_reload.specs.Differences.{HasMoved}
use Rattle.roam_reload.specs.Moves.{is_moved}
use Rattle.roam_reload.specs.Reload.{KeepsKinds, endpoints_of, here}
use Rattle.roam_reload.specs.declared.kind.PlaceKind.{PlaceKind}
use Rattle.roam_reload.specs.declared.kind.PlaceKind.TheVariants.{Auth, Acct, Out, Reverse}

-- an endpoint that isn't at a place of another kind is at none
record AreFalse (a b c : Bool) : Type 0 where
  first : a ≡ false
  second : b ≡ false
  third : c ≡ false

kept3 : (a b c : Bool) → (a || b || c) ≡ false → AreFalse a b c
kept3 a b c none =
    let most = or_parts (a || b) c none in
    let first = or_parts a b most.0 in
    record { first = first.0; second = first.1; third = most.1 }

clash : {P : Type 0} (a : Bool) → a ≡ true → a ≡ false → P
clash a yes' no' = absurd (true≢false (sym yes' ∙ no'))

-- whether an endpoint is at a place of a kind
abbrev at : ConfigView → PlaceKind → Endpoint → Bool
at config kind e = is_among (endpoints_of config kind) e

pub stays : (config : ConfigView) (kind after : PlaceKind) (e : Endpoint) → is_moved config kind e ≡ false →
    is_among (endpoints_of config after) e ≡ true → after ≡ kind
stays config Auth Auth e none there = refl
stays config Auth Acct e none there =
    clash (at config Acct e) there (kept3 (at config Acct e) (at config Out e) (at config Reverse e) none).first
stays config Auth Out e none there =
    clash (at config Out e) there (kept3 (at config Acct e) (at config Out e) (at config Reverse e) none).second
stays config Auth Reverse e none there =
    clash (at config Reverse e) there (kept3 (at config Acct e) (at config Out e) (at config Reverse e) none).third
stays config Acct Auth e none there =
    clash (at config Auth e) there (kept3 (at config Auth e) (at config Out e) (at config Reverse e) none).first
stays config Acct Acct e none there = refl
stays config Acct Out e none there =
    clash (at config Out e) there (kept3 (at config Auth e) (at config Out e) (at config Reverse e) none).second
stays config Acct Reverse e none there =
    clash (at config Reverse e) there (kept3 (at config Auth e) (at config Out e) (at config Reverse e) none).third
stays config Out Auth e none there =
    clash (at config Auth e) there (kept3 (at config Auth e) (at config Acct e) (at config Reverse e) none).first
stays config Out Acct e none there =
    clash (at config Acct e) there (kept3 (at config Auth e) (at config Acct e) (at config Reverse e) none).second
stays config Out Out e none there = refl
stays config Out Reverse e none there =
    clash (at config Reverse e) there (kept3 (at config Auth e) (at config Acct e) (at config Reverse e) none).third
stays config Reverse Auth e none there =
    clash (at config Auth e) there (kept3 (at config Auth e) (at config Acct e) (at config Out e) none).first
stays config Reverse Acct e none there =
    clash (at config Acct e) there (kept3 (at config Auth e) (at config Acct e) (at config Out e) none).second
stays config Reverse Out e none there =
    clash (at config Out e) there (kept3 (at config Auth e) (at config Acct e) (at config Out e) none).third
stays config Reverse Reverse e none there = refl

-- one that is at such a place
record IsAway (config : ConfigView) (kind : PlaceKind) (e : Endpoint) : Type 0 where
  after : PlaceKind
  there : is_among (endpoints_of config after) e ≡ true
  differs : after ≢ kind

away3 : (config : ConfigView) (kind a b c : PlaceKind) (e : Endpoint) → a ≢ kind → b ≢ kind → c ≢ kind
    → (is_among (endpoints_of config a) e || is_among (endpoints_of config b) e || is_among (endpoints_of config c)
    e) ≡ true
    → IsAway config kind e
away3 config kind a b c e not_a not_b not_c some =
    elim (or_cases (is_among (endpoints_of config a) e || is_among (endpoints_of config b) e)
    (is_among (endpoints_of config c) e) some) [
      | inl most ↦ (elim (or_cases (is_among (endpoints_of config a) e) (is_among (endpoints_of config b) e) most) [
        | inl first ↦ (record { after = a; there = first; differs = not_a })
        | inr second ↦ (record { after = b; there = second; differs = not_b })
      ])
      | inr third ↦ (record { after = c; there = third; differs = not_c })
    ]

away : (config : ConfigView) (kind : PlaceKind) (e : Endpoint) → is_moved config kind e ≡ true → IsAway config kind e
away config Auth e moved = away3 config Auth Acct Out Reverse e (λ h. cc) (λ h. cc) (λ h. cc) moved
away config Acct e moved = away3 config Acct Auth Out Reverse e (λ h. cc) (λ h. cc) (λ h. cc) moved
away config Out e moved = away3 config Out Auth Acct Reverse e (λ h. cc) (λ h. cc) (λ h. cc) moved
away config Reverse e moved = away3 config Reverse Auth Acct Out e (λ h. cc) (λ h. cc) (λ h. cc) moved

-- an endpoint of this kind in the old configuration that is at a place of another kind in the new one
pub moves : (old new : ConfigView) (kind : PlaceKind) (e : Endpoint) → is_among (endpoints_of old kind) e ≡ true →
    is_moved new kind e ≡ true → HasMoved old new e
moves old new kind e was moved =
    let there = away new kind e moved in
    record { before = kind; after = there.after; was_there = was; is_there = there.there; differ = there.differs }

-- an endpoint is the same as itself
same_self : (e : Endpoint) → same_endpoint e e ≡ true
same_self e = (endpoint_decides e e).1 refl

-- what is looked for and found is there, and passes
pub found : (test : Endpoint → Bool) (es : List Endpoint) (e : Endpoint) → find test es ≡ Some e →
    (is_among es e ≡ true) × (test e ≡ true)
found test [] e is = absurd (none-some e is)
found test (x ∷ xs) e is =
    elim (cases_Bool (test x)) [
      | inl yes' ↦ (
          let same : Some x ≡ Some e = rw yes' at is in
          let here : x ≡ e = same_Some x e same in (
            or_left (same_endpoint e x) (is_among xs e)
                (subst (λ y. same_endpoint e y ≡ true) (sym here) (same_self e)),
            subst (λ y. test y ≡ true) here yes',
          ))
      | inr no' ↦ (
          let rest : find test xs ≡ Some e = rw no' at is in
          let later = found test xs e rest in
          (or_right (same_endpoint e x) (is_among xs e) later.0, later.1))
    ]

-- where nothing is found, nothing that is there passes
pub missed : (test : Endpoint → Bool) (es : List Endpoint) (e : Endpoint) → find test es ≡ None →
    is_among es e ≡ true → test e ≡ false
missed test [] e is there = absurd (false≢true there)
missed test (x ∷ xs) e is there =
    elim (cases_Bool (test x)) [
      | inl yes' ↦ (let some : Some x ≡ None = rw yes' at is in absurd (none-some x (sym some)))
      | inr no' ↦ (
          let rest : find test xs ≡ None = rw no' at is in
          elim (or_cases (same_endpoint e x) (is_among xs e) there) [
            | inl here ↦ (subst (λ y. test y ≡ false) (sym ((endpoint_decides e x).0 here)) no')
            | inr later ↦ (missed test xs e rest later)
          ])
    ]

-- nothing has moved
pub all_stay : (old new : ConfigView) → ((kind : PlaceKind) → find (is_moved new kind) (endpoints_of old kind) ≡ None) →
    KeepsKinds old new
all_stay old new none kind after e was is =
    stays new kind after e (missed (is_moved new kind) (endpoints_of old kind) e (none kind) was) is

-- what is looked for in many realms is looked for in the first that is here, and in those behind it
pub in_realms : (test : Endpoint → Bool) (places : RealmView → List Endpoint) (realms : List Realm) (i : ℕ)
    (realm : Realm) → i < length realms → realm ≡ get_or realms i realm →
    find test (flat_map places (here (map shown_realm (drop i realms))))
    ≡ option_or (if realm.gone then None else find test (places (shown_realm realm)))
    (find test (flat_map places (here (map shown_realm (drop (i + 1) realms)))))
in_realms test places realms i realm within is =
    let there : drop i realms ≡ realm ∷ drop (i + 1) realms =
    rw add-one (drop-cons realms i realm within ∙ ap (λ r. r ∷ drop (suc i) realms) (sym is)) in
    rw there (by_gone realm.gone)
  where
    rest : List RealmView
    rest = here (map shown_realm (drop (i + 1) realms))

    by_gone : (gone : Bool) → find test (flat_map places (if not gone then shown_realm realm ∷ rest else rest))
        ≡ option_or (if gone then None else find test (places (shown_realm realm))) (find test (flat_map places rest))
    by_gone true = refl
    by_gone false = find-append test (places (shown_realm realm)) (flat_map places rest)

-- one that is there is in the first realm that is here, or behind it
pub ruleset of_realms = (list_any-append)

-- Packets by the realm that they are for.
use Rattle.std.proofs.Common.{◌≡◌, ◌≢◌, ℕ, ◌+◌, ◌<◌, ◌≤◌, Bool, true, false, List, [], ◌∷◌, ◌++◌, Some, None, refl, sym, ap, subst, ◌∙◌, arith}
use Rattle.std.specs.Prelude.{◌==◌}
use Rattle.std.specs.List.{AllByRecursion, filter}
use Rattle.std.proofs.lemmas.Bool.Decides.{nat_tests}
use Rattle.std.proofs.lemmas.List.Elements.{filter-append}
use Rattle.roam_admission.specs.Admission.{PlainOut}
use Rattle.roam_core.specs.Isolation.{is_realm, is_none, packets_for, packets_for_none, IsRealmBelow, HasRealm}

-- a packet is for a realm from `low` to below `high`
pub record IsFor (low high : ℕ) (out : PlainOut) : Type 0 where
  pub realm : ℕ
  pub is : out.realm ≡ Some realm
  pub from : low ≤ realm
  pub below : realm < high

-- so is each of some packets
abbrev pub AllFor : ℕ → ℕ → List PlainOut → Type 0
AllFor low high packets = AllByRecursion (IsFor low high) packets

pub AllFor-append : (low high : ℕ) (one other : List PlainOut) → AllFor low high one → AllFor low high other →
    AllFor low high (one ++ other)
AllFor-append low high [] other these those = those
AllFor-append low high (p ∷ ps) other these those =
    (these.0, AllFor-append low high ps other these.1 those)

IsFor-wider : (low high less more : ℕ) (p : PlainOut) → less ≤ low → high ≤ more → IsFor low high p → IsFor less more p
IsFor-wider low high less more p from to h =
    record { realm = h.realm; is = h.is; from = omega (arith, h.from); below = omega (arith, h.below) }

pub AllFor-wider : (low high less more : ℕ) (packets : List PlainOut) → less ≤ low → high ≤ more →
    AllFor low high packets → AllFor less more packets
AllFor-wider low high less more [] from to h = tt
AllFor-wider low high less more (p ∷ ps) from to h =
    (IsFor-wider low high less more p from to h.0, AllFor-wider low high less more ps from to h.1)

-- a test of the first packet
passed : (test : PlainOut → Bool) (p : PlainOut) (ps : List PlainOut) → test p ≡ true →
    filter test (p ∷ ps) ≡ p ∷ filter test ps
passed test p ps is = rw is refl

failed : (test : PlainOut → Bool) (p : PlainOut) (ps : List PlainOut) → test p ≡ false →
    filter test (p ∷ ps) ≡ filter test ps
failed test p ps is = rw is refl

-- two parts, each equal to one
pub joined : (a b x y : List PlainOut) → a ≡ x → b ≡ y → a ++ b ≡ x ++ y
joined a b x y one other = ap (λ (l : List PlainOut). l ++ b) one ∙ ap (λ (l : List PlainOut). x ++ l) other

pub packets_for-append : (realm : ℕ) (one other : List PlainOut) →
    packets_for realm (one ++ other) ≡ packets_for realm one ++ packets_for realm other
packets_for-append realm one other = filter-append (λ (out : PlainOut). is_realm realm out.realm) one other

pub packets_for_none-append : (one other : List PlainOut) →
    packets_for_none (one ++ other) ≡ packets_for_none one ++ packets_for_none other
packets_for_none-append one other = filter-append (λ (out : PlainOut). is_none out.realm) one other

-- tests of two indexes
pub same_index : (a b : ℕ) → a ≡ b → (a == b) ≡ true
same_index a b same = grind (arith, nat_tests)

pub other_index : (a b : ℕ) → a ≢ b → (a == b) ≡ false
other_index a b differ = grind (arith, nat_tests)

not_for : (realm low high : ℕ) (p : PlainOut) → (low ≤ realm → realm < high → ⊥) → IsFor low high p →
    is_realm realm p.realm ≡ false
not_for realm low high p apart h =
    ap (is_realm realm) h.is
    ∙ other_index h.realm realm (λ same. apart (omega (arith, h.from, same)) (omega (arith, h.below, same)))

just_for : (realm : ℕ) (p : PlainOut) → IsFor realm (realm + 1) p → is_realm realm p.realm ≡ true
just_for realm p h =
    ap (is_realm realm) h.is ∙ same_index h.realm realm (omega (arith, h.from, h.below))

-- of packets for other realms none is for a realm; of its own packets all are; and none is for no realm
pub none_of_others : (realm low high : ℕ) (packets : List PlainOut) → (low ≤ realm → realm < high → ⊥) →
    AllFor low high packets → packets_for realm packets ≡ []
none_of_others realm low high [] apart h = refl
none_of_others realm low high (p ∷ ps) apart h =
    failed (λ (out : PlainOut). is_realm realm out.realm) p ps (not_for realm low high p apart h.0)
    ∙ none_of_others realm low high ps apart h.1

pub all_of_own : (realm : ℕ) (packets : List PlainOut) → AllFor realm (realm + 1) packets →
    packets_for realm packets ≡ packets
all_of_own realm [] h = refl
all_of_own realm (p ∷ ps) h =
    passed (λ (out : PlainOut). is_realm realm out.realm) p ps (just_for realm p h.0)
    ∙ ap (λ (l : List PlainOut). p ∷ l) (all_of_own realm ps h.1)

pub none_without_realm : (low high : ℕ) (packets : List PlainOut) → AllFor low high packets →
    packets_for_none packets ≡ []
none_without_realm low high [] h = refl
none_without_realm low high (p ∷ ps) h =
    failed (λ (out : PlainOut). is_none out.realm) p ps (ap is_none h.0.is)
    ∙ none_without_realm low high ps h.1

pub all_have_realms : (low high count : ℕ) (packets : List PlainOut) → high ≤ count → AllFor low high packets →
    AllByRecursion (HasRealm count) packets
all_have_realms low high count [] to h = tt
all_have_realms low high count (p ∷ ps) to h =
    let within : h.0.realm < count = omega (arith, h.0.below) in
    (subst (IsRealmBelow count) (sym h.0.is) within, all_have_realms low high count ps to h.1)

pub have_realms-append : (count : ℕ) (one other : List PlainOut) → AllByRecursion (HasRealm count) one →
    AllByRecursion (HasRealm count) other → AllByRecursion (HasRealm count) (one ++ other)
have_realms-append count [] other these those = those
have_realms-append count (p ∷ ps) other these those =
    (these.0, have_realms-append count ps other these.1 those)

-- a packet for no realm, alone
pub alone_for_none : (p : PlainOut) → p.realm ≡ None → packets_for_none (p ∷ []) ≡ p ∷ []
alone_for_none p is = passed (λ (out : PlainOut). is_none out.realm) p [] (ap is_none is)

pub alone_for_no_realm : (realm : ℕ) (p : PlainOut) → p.realm ≡ None → packets_for realm (p ∷ []) ≡ []
alone_for_no_realm realm p is =
    failed (λ (out : PlainOut). is_realm realm out.realm) p [] (ap (is_realm realm) is)

pub alone_has_realm : (count : ℕ) (p : PlainOut) → p.realm ≡ None → AllByRecursion (HasRealm count) (p ∷ [])
alone_has_realm count p is = (subst (IsRealmBelow count) (sym is) tt, tt)

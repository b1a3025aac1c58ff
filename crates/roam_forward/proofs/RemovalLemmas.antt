-- What two lists name together, without what names a session.
use Rattle.std.proofs.Common.{◌≡◌, ℕ, ◌==◌, Bool, true, false, List, [], ◌∷◌, ◌++◌, refl, sym, ap, ◌∙◌, inl, inr}
use Rattle.std.specs.Prelude.{◌&&◌, ◌||◌, not, if◌then◌else◌}
use Rattle.std.specs.List.{list_any}
use Rattle.std.proofs.lemmas.Bool.{cases_Bool, eqb-true}
use Rattle.std.proofs.lemmas.List.Folds.{list_any-append}
use Rattle.roam_wire.specs.declared.removed_attribute.RemovedAttribute.{RemovedAttribute}
use Rattle.roam_wire.specs.declared.removed_attribute.RemovedAttribute.TheVariants.{Kind, Vendor, VendorKind}
use Rattle.roam_wire.specs.RemovedAttributes.{is_one_of}
use Rattle.roam_forward.specs.declared.removal.Removal.{Removal}
use Rattle.roam_forward.specs.Removal.{is_kind, is_vendor, is_kind_of, is_some_of, without_sessions, session_kinds, removed_by}

-- a test that is false of each Type finds the same without what names a session
any_apart : (p : RemovedAttribute → Bool) → ((kind : ℕ) → p (Kind kind) ≡ false) → (l : List RemovedAttribute) →
    list_any p (without_sessions l) ≡ list_any p l
any_apart p no_kind [] = refl
any_apart p no_kind (Kind kind ∷ l) =
    elim (cases_Bool (is_one_of session_kinds kind)) [
      | inl session ↦ rw (session, no_kind kind) (any_apart p no_kind l)
      | inr other ↦ rw other (ap (λ (b : Bool). p (Kind kind) || b) (any_apart p no_kind l))
    ]
any_apart p no_kind (Vendor vendor ∷ l) =
    ap (λ (b : Bool). p (Vendor vendor) || b) (any_apart p no_kind l)
any_apart p no_kind (VendorKind vendor kind ∷ l) =
    ap (λ (b : Bool). p (VendorKind vendor kind) || b) (any_apart p no_kind l)

-- a Type by which a session is named isn't found
no_session : (kind : ℕ) → is_one_of session_kinds kind ≡ true → (l : List RemovedAttribute) →
    list_any (is_kind kind) (without_sessions l) ≡ false
no_session kind session [] = refl
no_session kind session (Kind named ∷ l) =
    elim (cases_Bool (is_one_of session_kinds named)) [
      | inl too ↦ rw too (no_session kind session l)
      | inr other ↦ elim (cases_Bool (named == kind)) [
        | inl same ↦
            let is : is_one_of session_kinds kind ≡ false =
            ap (is_one_of session_kinds) (sym (eqb-true named kind same)) ∙ other in
            absurd (cc)
        | inr differs ↦ rw (other, differs) (no_session kind session l)
      ]
    ]
no_session kind session (Vendor vendor ∷ l) = no_session kind session l
no_session kind session (VendorKind vendor named ∷ l) = no_session kind session l

-- any other Type is found as before
other_kind : (kind : ℕ) → is_one_of session_kinds kind ≡ false → (l : List RemovedAttribute) →
    list_any (is_kind kind) (without_sessions l) ≡ list_any (is_kind kind) l
other_kind kind other [] = refl
other_kind kind other (Kind named ∷ l) =
    elim (cases_Bool (is_one_of session_kinds named)) [
      | inl session ↦ elim (cases_Bool (named == kind)) [
        | inl same ↦
            let is : is_one_of session_kinds kind ≡ true =
            ap (is_one_of session_kinds) (sym (eqb-true named kind same)) ∙ session in
            absurd (cc)
        | inr differs ↦ rw (session, differs) (other_kind kind other l)
      ]
      | inr too ↦ rw too (ap (λ (b : Bool). (named == kind) || b) (other_kind kind other l))
    ]
other_kind kind other (Vendor vendor ∷ l) = other_kind kind other l
other_kind kind other (VendorKind vendor named ∷ l) = other_kind kind other l

kind_in_both : (keeps session : Bool) (kind : ℕ) (peer realm : List RemovedAttribute) →
    is_one_of session_kinds kind ≡ session →
    list_any (is_kind kind) (if keeps then without_sessions (peer ++ realm) else peer ++ realm)
    ≡ (not (keeps && session) && (list_any (is_kind kind) peer || list_any (is_kind kind) realm))
kind_in_both true true kind peer realm is = no_session kind is (peer ++ realm)
kind_in_both true false kind peer realm is =
    other_kind kind is (peer ++ realm) ∙ list_any-append (is_kind kind) peer realm
kind_in_both false session kind peer realm is = list_any-append (is_kind kind) peer realm

-- a Type by which a session is named, where that passes
pub kind_kept : (removal : Removal) (kind : ℕ) → (removal.keeps_session && is_one_of session_kinds kind) ≡ true →
    list_any (is_kind kind) (removed_by removal) ≡ false
unfolding removed_by
kind_kept removal kind kept =
    kind_in_both removal.keeps_session (is_one_of session_kinds kind) kind removal.peer.now removal.realm.now refl
    ∙ rw kept refl

-- any other
pub kind_free : (removal : Removal) (kind : ℕ) → (removal.keeps_session && is_one_of session_kinds kind) ≡ false →
    list_any (is_kind kind) (removed_by removal)
    ≡ (list_any (is_kind kind) removal.peer.now || list_any (is_kind kind) removal.realm.now)
unfolding removed_by
kind_free removal kind free =
    kind_in_both removal.keeps_session (is_one_of session_kinds kind) kind removal.peer.now removal.realm.now refl
    ∙ rw free refl

apart_in_both : (keeps : Bool) (p : RemovedAttribute → Bool) → ((kind : ℕ) → p (Kind kind) ≡ false) →
    (peer realm : List RemovedAttribute) →
    list_any p (if keeps then without_sessions (peer ++ realm) else peer ++ realm)
    ≡ (list_any p peer || list_any p realm)
apart_in_both true p no_kind peer realm = any_apart p no_kind (peer ++ realm) ∙ list_any-append p peer realm
apart_in_both false p no_kind peer realm = list_any-append p peer realm

apart_removed : (removal : Removal) (p : RemovedAttribute → Bool) → ((kind : ℕ) → p (Kind kind) ≡ false) →
    list_any p (removed_by removal) ≡ (list_any p removal.peer.now || list_any p removal.realm.now)
unfolding removed_by
apart_removed removal p no_kind = apart_in_both removal.keeps_session p no_kind removal.peer.now removal.realm.now

pub vendor_removed : (removal : Removal) (vendor : ℕ) → list_any (is_vendor vendor) (removed_by removal)
    ≡ (list_any (is_vendor vendor) removal.peer.now || list_any (is_vendor vendor) removal.realm.now)
vendor_removed removal vendor = apart_removed removal (is_vendor vendor) (λ kind. refl)

pub kind_of_removed : (removal : Removal) (vendor kind : ℕ) → list_any (is_kind_of vendor kind) (removed_by removal)
    ≡ (list_any (is_kind_of vendor kind) removal.peer.now || list_any (is_kind_of vendor kind) removal.realm.now)
kind_of_removed removal vendor kind = apart_removed removal (is_kind_of vendor kind) (λ named. refl)

pub some_of_removed : (removal : Removal) (vendor : ℕ) → list_any (is_some_of vendor) (removed_by removal)
    ≡ (list_any (is_some_of vendor) removal.peer.now || list_any (is_some_of vendor) removal.realm.now)
some_of_removed removal vendor = apart_removed removal (is_some_of vendor) (λ kind. refl)

-- one of two tests

pub or_first : (a b : Bool) → a ≡ true → (a || b) ≡ a
or_first true b is = refl
or_first false b is = absurd (cc)

pub or_second : (a b : Bool) → a ≡ false → (a || b) ≡ b
or_second true b is = absurd (cc)
or_second false b is = refl

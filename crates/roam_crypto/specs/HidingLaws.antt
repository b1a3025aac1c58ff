-- Laws of hiding. Each is the contract of a function of src/hiding_laws.rt.
use Rattle.std.specs.Prelude.{◌≡◌, ◌↔◌, ℕ, ◌%◌, IsTrue, List, length}
use Rattle.roam_crypto.specs.Hiding.{Key, IsHidden, IsHiddenAnew, IsPasswordSize, password_fits, hidden_text, plain_text, hidden_anew}

-- this is the one of which the fact holds
pub record IsTheOne {X : Type 0} (Fact : X → Type 0) (one : X) : Type 0 where
  pub holds : Fact one
  pub no_other : (other : X) → Fact other → other ≡ one

-- a plain text of whole blocks has just one hidden text
abbrev pub OneHiddenText : Type 0
OneHiddenText = (key : Key) (plain : List ℕ) → length plain % 16 ≡ 0
    → IsTheOne (λ hidden. IsHidden key plain hidden) (hidden_text key plain)

-- a hidden text of whole blocks has just one plain text
abbrev pub OnePlainText : Type 0
OnePlainText = (key : Key) (hidden : List ℕ) → length hidden % 16 ≡ 0
    → IsTheOne (λ plain. IsHidden key plain hidden) (plain_text key hidden)

-- so a text of whole blocks can be hidden anew in just one way
abbrev pub OneTextAnew : Type 0
OneTextAnew = (from to : Key) (old : List ℕ) → length old % 16 ≡ 0
    → IsTheOne (λ new. IsHiddenAnew from to old new) (hidden_anew from to old)

-- hiding anew with the same key changes nothing
abbrev pub SameKeyChangesNothing : Type 0
SameKeyChangesNothing = (key : Key) (old new : List ℕ) → IsHiddenAnew key key old new → new ≡ old

-- hidden anew, and then anew with the first key, it is the first text again
abbrev pub FirstKeyBringsBack : Type 0
FirstKeyBringsBack = (from to : Key) (old new back : List ℕ)
    → IsHiddenAnew from to old new → IsHiddenAnew to from new back → back ≡ old

-- the test of a password's size is true just where it may have that size
abbrev pub PasswordSizeIsDecided : Type 0
PasswordSizeIsDecided = (value : List ℕ)
    → IsTrue (password_fits value) ↔ IsPasswordSize (length value)

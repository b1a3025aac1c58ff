-- The first word is the only one that may be unknown.
use Rattle.std.proofs.Common.{◌≡◌, ◌∙◌, ℕ, Bool, true, false, List, Some, None, map, subst, sym, true≢false}
use Rattle.std.specs.Prelude.{slice_get}
use Rattle.std.proofs.lemmas.Option.{none-some, same_Some}
use Rattle.roam_cli.specs.CommandLine.{IsCommandWord, IsUnknown}
use Rattle.roam_cli.proofs.unknown.unknown_word.Goals as goal

-- a command begins with the first word, so no word is unknown
known-word : (texts : List (List ℕ)) (word : List ℕ) → Some word ≡ slice_get texts 0 → IsCommandWord word →
    (other : List ℕ) → ¬ (IsUnknown texts other)
known-word texts word first known other unknown =
    let same : word ≡ other = same_Some word other (first ∙ unknown.0) in
    unknown.1 (subst (λ w. IsCommandWord w) same known)

-- there is no first word
no-word : (texts : List (List ℕ)) → None ≡ slice_get texts 0 → (other : List ℕ) → ¬ (IsUnknown texts other)
no-word texts first other unknown = none-some other (first ∙ unknown.0)

-- nothing holds and doesn't
not-both : (is : Bool) → is ≡ true → is ≡ false → ⊥
not-both is holds fails = true≢false (sym holds ∙ fails)

pub returns-then-is_command_word : goal.returns-then-is_command_word
returns-then-is_command_word g c =
    known-word (map g.S.AsStr.text c.args.words.now) c.in-Some.word.now c.in-Some.ensures
    (c.is_command_word.ensures.0 c.if-is_command_word.true)

pub returns-else-is_command_word : goal.returns-else-is_command_word
returns-else-is_command_word g c = (
  sym c.in-Some.ensures,
  λ known. not-both c.is_command_word.result (c.is_command_word.ensures.1 known) c.if-is_command_word.false,
)

pub returns-in-None : goal.returns-in-None
returns-in-None g c = no-word (map g.S.AsStr.text c.args.words.now) c.in-None.ensures

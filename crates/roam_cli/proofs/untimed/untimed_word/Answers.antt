-- The words are three, or four, and what is told of their texts is told of them.
use Rattle.std.proofs.Common.{ℕ, List, subst}
use Rattle.std.specs.Prelude.{MatchOption}
use Rattle.roam_cli.specs.CommandLine.{IsUntimed}
use Rattle.roam_cli.proofs.WordLemmas.{three-texts, four-texts}
use Rattle.roam_cli.proofs.untimed.untimed_word.Goals as goal

pub returns-in-len3 : goal.returns-in-len3
returns-in-len3 g c =
    let texts = three-texts g.S.AsStr.text c.args.words.now _ _ _ _ _ _ _ _ _ c.in-len3.len_at_least c.in-len3.len_below
    c.word-item.is c.configuration-item.is c.last-item.is c.as_str.ensures c.as_str-in-len3.ensures
    c.as_str-in-len3-2.ensures in
    subst (λ (of : List (List ℕ)). MatchOption c.of_three.result ((word : List ℕ) → ¬ (IsUntimed of word))
    (λ word. IsUntimed of word.now)) texts c.of_three.ensures

pub returns-in-len4 : goal.returns-in-len4
returns-in-len4 g c =
    let texts = four-texts g.S.AsStr.text c.args.words.now _ _ _ _ _ _ _ _ _ _ _ _ c.in-len4.len_at_least
    c.in-len4.len_below c.word-item-then-words-lt5.is c.option-item.is c.configuration-item-then-words-lt5.is
    c.last-item-then-words-lt5.is c.as_str-in-len4.ensures c.as_str-in-len4-2.ensures c.as_str-in-len4-3.ensures
    c.as_str-in-len4-4.ensures in
    subst (λ (of : List (List ℕ)). MatchOption c.of_four.result ((word : List ℕ) → ¬ (IsUntimed of word))
    (λ word. IsUntimed of word.now)) texts c.of_four.ensures

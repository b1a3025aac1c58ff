-- The first word's text is the first of the texts.
use Rattle.std.proofs.Common.{◌≡◌, ◌∙◌, ℕ, List, Some, map, option_map, ap, sym}
use Rattle.std.specs.Prelude.{slice_get}
use Rattle.std.proofs.lemmas.Option.{slice_get-map}
use Rattle.roam_cli.proofs.unknown.first_word.Goals as goal

-- the text of the first one
first-text : {S : Type 0} (text : S → List ℕ) (words : List S) (word : S) (octets : List ℕ)
    → Some word ≡ slice_get words 0 → octets ≡ text word → Some octets ≡ slice_get (map text words) 0
first-text text words word octets is octets_are =
    ap Some octets_are ∙ ap (option_map text) is ∙ sym (slice_get-map text words 0)

pub returns-in-Some : goal.returns-in-Some
returns-in-Some g c =
    first-text g.S.AsStr.text c.args.words.now c.in-Some.word.now c.as_str.result.now c.in-Some.ensures.value
    c.as_str.ensures

-- where there is none, there is none of the texts
pub returns-in-None : goal.returns-in-None
returns-in-None g c =
    ap (option_map g.S.AsStr.text) c.in-None.ensures.value ∙ sym (slice_get-map g.S.AsStr.text c.args.words.now 0)

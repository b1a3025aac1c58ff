-- The last entry that keeps a State, one entry after the other.
use Rattle.std.proofs.Common.{◌≡◌, ℕ, ◌+◌, ◌<◌, ◌≤◌, List, Option, Some, None, refl, ap, sym, ◌∙◌, length, get_or, drop, drop-cons, add-one}
use Rattle.std.specs.Option.{option_or}
use Rattle.std.proofs.lemmas.List.{drop_all}
use Rattle.roam_pending.specs.declared.entry.Entry.{Entry}
use Rattle.roam_pending.specs.Conversations.{if_round, last_round}
use Rattle.roam_pending.specs.PlainEntry.{PlainEntry}
use Rattle.roam_pending.specs.Shown.{shown, shown_all}

-- the last of three
in_turn : (a b d : Option PlainEntry) → option_or a (option_or b d) ≡ option_or (option_or a b) d
in_turn None b d = refl
in_turn (Some e) b d = refl

-- the entries from a place on begin with the entry at that place
front :
    {A : Type 0} (peer : ℕ) (state : List ℕ) (es : List (Entry A)) (i : ℕ) (e : Entry A) → i < length es
    → e ≡ get_or es i e
    → last_round peer state (shown_all (drop i es))
    ≡ option_or (last_round peer state (shown_all (drop (i + 1) es))) (if_round peer state (shown e))
front peer state es i e lt at = rw (drop-cons es i e, ← at, add-one) refl

-- the entry at a place
pub round-turn :
    {A : Type 0} (peer : ℕ) (state : List ℕ) (last : Option PlainEntry) (es : List (Entry A)) (i : ℕ) (e : Entry A)
    → i < length es → e ≡ get_or es i e
    → option_or (last_round peer state (shown_all (drop i es))) last ≡ last_round peer state (shown_all es)
    → option_or (last_round peer state (shown_all (drop (i + 1) es))) (option_or (if_round peer state (shown e)) last)
    ≡ last_round peer state (shown_all es)
round-turn peer state last es i e lt at inv =
    in_turn (last_round peer state (shown_all (drop (i + 1) es))) (if_round peer state (shown e)) last
    ∙ ap (λ (o : Option PlainEntry). option_or o last) (sym (front peer state es i e lt at)) ∙ inv

-- no entry is left
pub round-end :
    {A : Type 0} (peer : ℕ) (state : List ℕ) (last : Option PlainEntry) (es : List (Entry A)) (i : ℕ) → length es ≤ i
    → option_or (last_round peer state (shown_all (drop i es))) last ≡ last_round peer state (shown_all es)
    → last ≡ last_round peer state (shown_all es)
round-end {A} peer state last es i past inv =
    ap (λ (l : List (Entry A)). option_or (last_round peer state (shown_all l)) last) (sym (drop_all i es past)) ∙ inv

-- Looking for the first entry that passes a test, one entry after the other.
use Rattle.std.proofs.Common.{◌≡◌, ℕ, ◌+◌, ◌<◌, ◌≤◌, Bool, true, false, List, [], ◌∷◌, Option, Some, None, refl, ap, sym, ◌∙◌, cond, length, get_or, drop, drop-cons, add-one}
use Rattle.std.specs.Prelude.{◌&&◌, not, option_map}
use Rattle.std.specs.List.{find}
use Rattle.std.proofs.lemmas.List.{drop_all}
use Rattle.roam_pending.specs.declared.entry.Entry.{Entry}
use Rattle.roam_pending.specs.PlainEntry.{PlainEntry, has_ticket, is_done}
use Rattle.roam_pending.specs.EntryList.{besides, is_done_beside, without, first_done}
use Rattle.roam_pending.specs.Shown.{shown, shown_all}

-- the entries from a place on begin with the entry at that place
front :
    {A : Type 0} (es : List (Entry A)) (i : ℕ) (e : Entry A) → i < length es → e ≡ get_or es i e
    → shown_all (drop i es) ≡ shown e ∷ shown_all (drop (i + 1) es)
front es i e lt at = rw (drop-cons es i e, ← at, add-one) refl

-- what is found from a place on, by the entry at that place
from_place :
    {A : Type 0} (p : PlainEntry → Bool) (es : List (Entry A)) (i : ℕ) (e : Entry A) (b : Bool)
    → i < length es → e ≡ get_or es i e → p (shown e) ≡ b
    → find p (shown_all (drop i es)) ≡ cond b (Some (shown e)) (find p (shown_all (drop (i + 1) es)))
from_place p es i e b lt at h = rw (front es i e lt at, h) refl

-- the entry at a place passes, and none before it did
pub find-hit :
    {A : Type 0} (p : PlainEntry → Bool) (es : List (Entry A)) (i : ℕ) (e : Entry A) → i < length es
    → e ≡ get_or es i e → p (shown e) ≡ true
    → find p (shown_all (drop i es)) ≡ find p (shown_all es)
    → Some (shown e) ≡ find p (shown_all es)
find-hit p es i e lt at h inv = sym (from_place p es i e true lt at h) ∙ inv

-- the entry at a place doesn't pass
pub find-skip :
    {A : Type 0} (p : PlainEntry → Bool) (es : List (Entry A)) (i : ℕ) (e : Entry A) → i < length es
    → e ≡ get_or es i e → p (shown e) ≡ false
    → find p (shown_all (drop i es)) ≡ find p (shown_all es)
    → find p (shown_all (drop (i + 1) es)) ≡ find p (shown_all es)
find-skip p es i e lt at h inv = sym (from_place p es i e false lt at h) ∙ inv

-- no entry is left
pub find-none :
    {A : Type 0} (p : PlainEntry → Bool) (es : List (Entry A)) (i : ℕ) → length es ≤ i
    → find p (shown_all (drop i es)) ≡ find p (shown_all es) → None ≡ find p (shown_all es)
find-none {A} p es i past inv = ap (λ (l : List (Entry A)). find p (shown_all l)) (sym (drop_all i es past)) ∙ inv

-- one entry more, where one counts as gone
cons_without :
    (t : ℕ) (e : PlainEntry) (es : List PlainEntry) (b d : Bool) → has_ticket t e ≡ b
    → is_done e ≡ d
    → find is_done (without t (e ∷ es)) ≡ cond (not b && d) (Some e) (find is_done (without t es))
cons_without t e es true d h k = rw h refl
cons_without t e es false true h k = rw (h, k) refl
cons_without t e es false false h k = rw (h, k) refl

-- what is found beside the entry that counts as gone
find-besides :
    (o : Option ℕ) (es : List PlainEntry) → find is_done (besides o es) ≡ find (is_done_beside o) es
find-besides None es = refl
find-besides (Some t) [] = refl
find-besides (Some t) (e ∷ es) = cons_without t e es (has_ticket t e) (is_done e) refl refl
    ∙ ap (λ (r : Option PlainEntry). cond (not (has_ticket t e) && is_done e) (Some e) r) (find-besides (Some t) es)

pub first_done-besides :
    (o : Option ℕ) (es : List PlainEntry)
    → first_done (besides o es) ≡ option_map (λ e. e.ticket) (find (is_done_beside o) es)
first_done-besides o es = ap (λ (r : Option PlainEntry). option_map (λ (e : PlainEntry). e.ticket) r)
    (find-besides o es)

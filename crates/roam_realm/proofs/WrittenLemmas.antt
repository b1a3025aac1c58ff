-- What a file of ledgers gains of a ledger.
use Rattle.std.proofs.Common.{◌≡◌, ℕ, suc, true, List, [], ◌∷◌, ◌++◌, Contains, Some, Result, Ok, Err, sym, ap, ◌∙◌, inl, inr, arith, map, append_assoc, append-nil}
use Rattle.std.proofs.lemmas.Bool.{or_cases}
use Rattle.std.proofs.lemmas.List.{map-append}
use Rattle.std.proofs.lemmas.List.Concat.{flat_map-append}
use Rattle.std.specs.List.{AllByRecursion, flat_map}
use Rattle.std.specs.Prelude.{OnOk}
use Rattle.roam_sessions.specs.Ledgers.{SavedItem, SavedSession, item_text, session}
use Rattle.roam_sessions.specs.Sessions.{Session, has_session, same_session}
use Rattle.roam_sessions.proofs.SameLemmas.{same-is}
use Rattle.roam_realm.specs.RealmConfig.{RealmConfig}
use Rattle.roam_realm.specs.Saving.{saved_session}
use Rattle.roam_realm.specs.Written.{GainsOpen, IsOpenIn}

-- a session that is there is one of the list
later : (x : Session) (xs : List Session) (s : Session) → Contains xs s → Contains (x ∷ xs) s
later x xs s there = (suc there.0, omega (arith, there.1), there.2)

pub is-one : (s : Session) (xs : List Session) → has_session s xs ≡ true → Contains xs s
is-one s [] there = absurd (cc there)
is-one s (x ∷ xs) there = elim (or_cases (same_session s x) (has_session s xs) there) [
  | inl here ↦ (0, omega arith, sym (same-is s x here))
  | inr behind ↦ later x xs s (is-one s xs behind)
]

each-more : (P : SavedSession → Type 0) (xs ys : List SavedSession) → AllByRecursion P xs → AllByRecursion P ys
    → AllByRecursion P (xs ++ ys)
each-more P [] ys front back = back
each-more P (x ∷ xs) ys front back = (front.0, each-more P xs ys front.1 back)

module _ (c : RealmConfig) (ss : List Session) where
  pub gains_none : (old : List ℕ) → GainsOpen c ss old old
  gains_none old = record { sessions = []; each = tt; written = sym (append-nil old) }

  pub gains_one : (old new : List ℕ) (one : Session) (saved : SavedSession) → has_session one ss ≡ true
      → saved_session c.peers one ≡ Some saved → new ≡ old ++ item_text (session saved) → GainsOpen c ss old new
  gains_one old new one saved there is written = record {
    sessions = saved ∷ [];
    each = ((one, is-one one ss there, is), tt);
    written = written ∙ ap (λ (l : List ℕ). old ++ l) (sym (append-nil (item_text (session saved))));
  }

  pub gains_more : (old between new : List ℕ) → GainsOpen c ss old between → GainsOpen c ss between new
      → GainsOpen c ss old new
  gains_more old between new first second =
      let front = flat_map item_text (map session first.sessions) in
      let back = flat_map item_text (map session second.sessions) in
      let both : flat_map item_text (map session (first.sessions ++ second.sessions)) ≡ front ++ back =
      ap (λ (l : List SavedItem). flat_map item_text l) (map-append session first.sessions second.sessions)
      ∙ flat_map-append item_text (map session first.sessions) (map session second.sessions) in
      record {
        sessions = first.sessions ++ second.sessions;
        each = each-more (IsOpenIn c ss) first.sessions second.sessions first.each second.each;
        written =
            second.written ∙ ap (λ (l : List ℕ). l ++ back) first.written ∙ append_assoc old front back
            ∙ ap (λ (l : List ℕ). old ++ l) (sym both);
      }

pub on_one : {X E P R : Type 0} (r : Result X E) → OnOk r P → (P → R) → OnOk r R
on_one (Ok x) p f = f p
on_one (Err e) p f = tt

-- All sessions that agree are ended, and freed one after the other.
use Rattle.std.proofs.Common.{◌≡◌, ◌⊎◌, ℕ, ◌+◌, true, false, List, [], length, Option, Some, None, refl, sym, ap, ◌∙◌, subst, inl, inr, arith}
use Rattle.std.specs.Prelude.{filter, nat_lt, not}
use Rattle.std.specs.List.{cons_option}
use Rattle.std.proofs.lemmas.Bool.{and_from, and_right, cases_Bool, cases_eq, cases_lt, lt-ltb, not_from_true}
use Rattle.roam_wire.specs.Numbered.{PutsAt, tickets_end}
use Rattle.roam_sessions.specs.Ended.{IsTable, ended_asked, is_ended, open_at, open_of, open_sessions}
use Rattle.roam_sessions.specs.Private.Tickets.{IsOneOf, NoneBefore, all_listed}
use Rattle.roam_sessions.specs.Sessions.{Asked, Session, agrees, without_agreeing}
use Rattle.roam_sessions.specs.Stands.{AreTickets, session_at, sessions_of}
use Rattle.roam_sessions.specs.declared.ended.Ended.{Ended}
use Rattle.roam_sessions.specs.declared.table.Table.{Table}
use Rattle.roam_sessions.proofs.ListedLemmas.{kept_of, listed-filter}
use Rattle.roam_sessions.proofs.PairLemmas.{filter-listed, both-lengths, fails-alone}
use Rattle.roam_sessions.proofs.EndedLemmas.{not-before}
use Rattle.roam_sessions.proofs.OpenLemmas.{open-where, ended-where, none-open, open-there, open-or-not, all-open, open-tickets, none-left}

module _ (q : Asked) (e : Ended) (F : ℕ → Option Session) (next : ℕ) (are : AreTickets F next)
    (asks : ended_asked e ≡ q) (before : e.before ≡ next) where
  pub marked-is : (t : ℕ) (s : Session) → F t ≡ Some s → is_ended e t s ≡ agrees q s
  marked-is t s at = elim (cases_lt t next) [
    | inl lt ↦ (
        let first : nat_lt t e.before ≡ true = lt-ltb t e.before (omega (arith, lt, before)) in
        rw first (ap (λ (x : Asked). agrees x s) asks))
    | inr ge ↦ absurd (let k = are.given t ge in cc (k, at))
  ]

  module _ (P : ℕ → Option Session)
      (each : (u : ℕ) (s : Session) → F u ≡ Some s → (P u ≡ F u) ⊎ ((P u ≡ None) × (agrees q s ≡ true)))
      (none : (u : ℕ) → F u ≡ None → P u ≡ None) where
    kept : Option Session → Option Session
    kept = kept_of (λ (s : Session). not (agrees q s))

    out : (u : ℕ) (s : Session) → F u ≡ Some s → agrees q s ≡ true → kept (P u) ≡ None
    unfolding kept
    out u s at agree = elim (each u s at) [
      | inl there ↦ ap (kept_of (λ (x : Session). not (agrees q x))) (there ∙ at) ∙ rw agree refl
      | inr gone ↦ ap (kept_of (λ (x : Session). not (agrees q x))) gone.0
    ]

    stays : (u : ℕ) (s : Session) → F u ≡ Some s → agrees q s ≡ false → kept (P u) ≡ Some s
    unfolding kept
    stays u s at disagree = elim (each u s at) [
      | inl there ↦ ap (kept_of (λ (x : Session). not (agrees q x))) (there ∙ at) ∙ rw disagree refl
      | inr gone ↦ absurd (let k = gone.1 in cc (k, disagree))
    ]

    marked-each : (u : ℕ) → open_of e F u ≡ kept (P u)
    unfolding kept
    marked-each u = by (F u) refl
      where
        by : (w : Option Session) → F u ≡ w → open_of e F u ≡ kept (P u)
        by None at = none-open e F u at ∙ sym (ap (kept_of (λ (x : Session). not (agrees q x))) (none u at))
        by (Some s) at = elim (cases_Bool (agrees q s)) [
          | inl agree ↦ ended-where e F u s at (marked-is u s at ∙ agree) ∙ sym (out u s at agree)
          | inr disagree ↦ open-where e F u s at (marked-is u s at ∙ disagree) ∙ sym (stays u s at disagree)
        ]

    marked-left : all_listed (open_of e F) ≡ without_agreeing q (all_listed P)
    unfolding kept
    marked-left = listed-filter (λ (s : Session). not (agrees q s)) P (open_of e F) 0 tickets_end marked-each

  -- of those that another end left open
  pub marked-open : (o : Ended) → ((t : ℕ) (s : Session) → F t ≡ Some s → is_ended o t s ≡ true → agrees q s ≡ true)
      → all_listed (open_of e F) ≡ without_agreeing q (all_listed (open_of o F))
  marked-open o within = marked-left (open_of o F) each (λ u at. none-open o F u at)
    where
      each : (u : ℕ) (s : Session) → F u ≡ Some s
          → (open_of o F u ≡ F u) ⊎ ((open_of o F u ≡ None) × (agrees q s ≡ true))
      each u s at = elim (cases_Bool (is_ended o u s)) [
        | inl ended ↦ inr (ended-where o F u s at ended, within u s at ended)
        | inr not_ended ↦ inl (open-where o F u s at not_ended ∙ sym at)
      ]

  -- and as many go of all rows as agree
  pub marked-count : length (all_listed (open_of e F)) + length (filter (agrees q) (all_listed F))
      ≡ length (all_listed F)
  marked-count =
      ap (λ (l : List Session). length l + length (filter (agrees q) (all_listed F)))
      (marked-left F (λ u s at. inl refl) (λ u at. at))
      ∙ both-lengths (agrees q) (all_listed F)

-- ---- the oldest row that agrees with what an end asked for

module _ (e : Ended) (F : ℕ → Option Session) where
  none-agrees : (u : ℕ) (s : Session) → agrees (ended_asked e) s ≡ false → is_ended e u s ≡ false
  none-agrees u s disagree = and_right (nat_lt u e.before) (agrees (ended_asked e) s) disagree

  -- where none agrees, none was ended
  pub none-ended : IsOneOf (agrees (ended_asked e)) F None → all_listed (open_of e F) ≡ all_listed F
  none-ended none = all-open e F (λ u s at. none-agrees u s (none u s at))

  -- nor where the oldest that agrees came later; so where one was ended, that one was
  pub oldest-ended : (t : ℕ) (s : Session) → F t ≡ Some s → agrees (ended_asked e) s ≡ true
      → NoneBefore (agrees (ended_asked e)) F (Some t)
      → (all_listed (open_of e F) ≡ all_listed F) ⊎ (open_of e F t ≡ None)
  oldest-ended t s at agree first = elim (cases_lt t e.before) [
    | inl lt ↦ inr (ended-where e F t s at
        (and_from (nat_lt t e.before) (agrees (ended_asked e) s) (lt-ltb t e.before lt) agree))
    | inr ge ↦ inl (all-open e F (λ u x there. elim (cases_lt u t) [
      | inl less ↦ none-agrees u x (first u x less there)
      | inr more ↦ not-before e u x (omega (arith, ge, more))
    ]))
  ]

-- ---- those that agree go one after the other

pub open-rest : (q : Asked) (e : Ended) (F : ℕ → Option Session) (t : ℕ) (x : Session) → F t ≡ Some x
    → agrees q x ≡ true → (P : ℕ → Option Session) → PutsAt (open_of e F) P t None
    → without_agreeing q (all_listed P) ≡ without_agreeing q (all_listed (open_of e F))
open-rest q e F t x at agree P goes =
    filter-listed (open_of e F) P (λ (s : Session). not (agrees q s)) 0 tickets_end each
  where
    out : (o : Option Session) → (o ≡ F t) ⊎ (o ≡ None)
        → filter (λ (s : Session). not (agrees q s)) (cons_option o []) ≡ []
    out o is = elim is [
      | inl there ↦
          ap (λ (w : Option Session). filter (λ (s : Session). not (agrees q s)) (cons_option w [])) (there ∙ at)
          ∙ fails-alone (λ (s : Session). not (agrees q s)) x (not_from_true (agrees q x) agree)
      | inr none ↦ ap (λ (w : Option Session). filter (λ (s : Session). not (agrees q s)) (cons_option w [])) none
    ]

    each : (u : ℕ) → (P u ≡ open_of e F u)
        ⊎ (filter (λ (s : Session). not (agrees q s)) (cons_option (P u) []) ≡ []
        × (filter (λ (s : Session). not (agrees q s)) (cons_option (open_of e F u) []) ≡ []))
    each u = elim (cases_eq u t) [
      | inl is ↦ inr (
        out (P u) (inr (ap P is ∙ goes.changed)),
        ap (λ (v : ℕ). filter (λ (s : Session). not (agrees q s)) (cons_option (open_of e F v) [])) is
            ∙ out (open_of e F t) (open-or-not e F t),
      )
      | inr ne ↦ inl (goes.others u ne)
    ]

pub rest-stays : (q : Asked) (e : Ended) (F : ℕ → Option Session) → IsOneOf (agrees q) F None
    → IsOneOf (agrees q) (open_of e F) None
rest-stays q e F none t s is = none t s (open-there e F t s is)

-- what is found of an end's sessions
pub freed-none : (e : Ended) (F : ℕ → Option Session) (q : Asked) → q ≡ ended_asked e → IsOneOf (agrees q) F None
    → all_listed (open_of e F) ≡ all_listed F
freed-none e F q is none =
    none-ended e F (subst (λ (x : Asked). IsOneOf (agrees x) F None) is none)

pub freed-one : (e : Ended) (F : ℕ → Option Session) (q : Asked) → q ≡ ended_asked e → (t : ℕ)
    → IsOneOf (agrees q) F (Some t) → NoneBefore (agrees q) F (Some t)
    → (all_listed (open_of e F) ≡ all_listed F) ⊎ (open_of e F t ≡ None)
freed-one e F q is t one first =
    let own = subst (λ (x : Asked). IsOneOf (agrees x) F (Some t)) is one in
    let before = subst (λ (x : Asked). NoneBefore (agrees x) F (Some t)) is first in
    oldest-ended e F t own.0 own.1 own.2 before

pub table-tickets : {A : Type 0} (c : Table A) → IsTable c → AreTickets (open_at c) c.chain.next
table-tickets c sound = open-tickets c.ended (session_at c.chain) c.chain.next sound.chain.tickets

-- where none is left that was ended, all are open
pub none-is-ended : {A : Type 0} (c : Table A) → IsTable c → c.left ≡ 0 → (t : ℕ) (s : Session)
    → session_at c.chain t ≡ Some s → is_ended c.ended t s ≡ false
none-is-ended c sound none t s at =
    none-left c.ended (session_at c.chain) c.chain.next sound.chain.tickets
    (omega (arith, sound.left, sound.chain.count, none)) t s at

pub table-open : {A : Type 0} (c : Table A) → IsTable c → c.left ≡ 0 → open_sessions c ≡ sessions_of c.chain
table-open c sound none = all-open c.ended (session_at c.chain) (λ t s at. none-is-ended c sound none t s at)

-- What is asked is told apart by its row.
use Rattle.std.proofs.Common.{◌≡◌, ℕ, ◌/◌, ◌%◌, ◌==◌, ◌+◌, ◌-◌, true, false, List, [], ◌∷◌, ◌++◌, length, Option, Some, None, refl, sym, ap, ◌∙◌, inl, inr, arith}
use Rattle.std.specs.Prelude.{◌&&◌, ◌||◌, is_none, is_some, option_map, if◌then◌else◌}
use Rattle.std.specs.Str.{bytes_eq}
use Rattle.std.proofs.lemmas.Bool.{and_from, and_left, and_parts, and_right, cases_Bool, or_cases}
use Rattle.roam_sessions.specs.Private.Groups.{if_row}
use Rattle.roam_sessions.specs.Private.Masks.{asked_by, asked_for, lacks, mask_of, narrow, without_names}
use Rattle.roam_sessions.specs.Private.Row.{part_text, row_text}
use Rattle.roam_sessions.specs.Sessions.{Asked, Session, agrees, agrees_in}
use Rattle.roam_sessions.proofs.SameLemmas.{number-is, octets-are, octets-same, same-number}

-- the first of a list, and what is behind it
first_of : List ℕ → ℕ
first_of [] = 0
first_of (x ∷ xs) = x

behind : List ℕ → List ℕ
behind [] = []
behind (x ∷ xs) = xs

-- lists of one length in front of others
split : (a b xs ys : List ℕ) → length a ≡ length b → a ++ xs ≡ b ++ ys → (a ≡ b) × (xs ≡ ys)
unfolding first_of behind
split [] [] xs ys size e = (refl, e)
split [] (y ∷ b) xs ys size e = absurd (omega (arith, size))
split (x ∷ a) [] xs ys size e = absurd (omega (arith, size))
split (x ∷ a) (y ∷ b) xs ys size e =
    let less : length a ≡ length b = omega (arith, size) in
    let head : x ≡ y = ap first_of e in
    let rest = split a b xs ys less (ap behind e) in
    (ap (λ (n : ℕ). n ∷ a) head ∙ ap (λ (l : List ℕ). y ∷ l) rest.0, rest.1)

-- parts in front of others
part-split : (a b : Option (List ℕ)) (xs ys : List ℕ) → part_text a ++ xs ≡ part_text b ++ ys → (a ≡ b) × (xs ≡ ys)
unfolding first_of behind
part-split None None xs ys e = (refl, ap behind e)
part-split None (Some b) xs ys e = absurd (let k : 0 ≡ 1 + length b = ap first_of e in omega (arith, k))
part-split (Some a) None xs ys e = absurd (let k : 1 + length a ≡ 0 = ap first_of e in omega (arith, k))
part-split (Some a) (Some b) xs ys e =
    let sizes : 1 + length a ≡ 1 + length b = ap first_of e in
    let size : length a ≡ length b = omega (arith, sizes) in
    let parts = split a b xs ys size (ap behind e) in
    (ap (λ (l : List ℕ). Some l) parts.0, parts.1)

-- the last part
part-is : (a b : Option (List ℕ)) → part_text a ≡ part_text b → a ≡ b
unfolding first_of behind
part-is None None e = refl
part-is None (Some b) e = absurd (let k : 0 ≡ 1 + length b = ap first_of e in omega (arith, k))
part-is (Some a) None e = absurd (let k : 1 + length a ≡ 0 = ap first_of e in omega (arith, k))
part-is (Some a) (Some b) e = ap (λ (l : List ℕ). Some l) (ap behind e)

-- the octets of a number say which it is
number-of : (a b : ℕ) → a / 256 ≡ b / 256 → a % 256 ≡ b % 256 → a ≡ b
number-of a b high low = omega (arith, high, low)

-- what is asked, by its parts
asked : ℕ → Option (List ℕ) → Option (List ℕ) → Option (List ℕ) → Option (List ℕ) → Asked
asked peer address identifier ipv6 id =
    record { peer = peer; nas = record { address = address; identifier = identifier; ipv6 = ipv6 }; id = id }

asked-is : (p q : Asked) → p.peer ≡ q.peer → p.nas.address ≡ q.nas.address → p.nas.identifier ≡ q.nas.identifier
    → p.nas.ipv6 ≡ q.nas.ipv6 → p.id ≡ q.id → p ≡ q
unfolding asked
asked-is p q peers addresses identifiers ipv6s ids =
    ap (λ (n : ℕ). asked n p.nas.address p.nas.identifier p.nas.ipv6 p.id) peers
    ∙ ap (λ (o : Option (List ℕ)). asked q.peer o p.nas.identifier p.nas.ipv6 p.id) addresses
    ∙ ap (λ (o : Option (List ℕ)). asked q.peer q.nas.address o p.nas.ipv6 p.id) identifiers
    ∙ ap (λ (o : Option (List ℕ)). asked q.peer q.nas.address q.nas.identifier o p.id) ipv6s
    ∙ ap (λ (o : Option (List ℕ)). asked q.peer q.nas.address q.nas.identifier q.nas.ipv6 o) ids

-- equal rows are of one question
pub row-is : (p q : Asked) → row_text p ≡ row_text q → p ≡ q
unfolding first_of behind
row-is p q e =
    let high : p.peer / 256 ≡ q.peer / 256 = ap first_of e in
    let low : p.peer % 256 ≡ q.peer % 256 = ap (λ (l : List ℕ). first_of (behind l)) e in
    let parts : part_text p.nas.address ++ (part_text p.nas.identifier ++ (part_text p.nas.ipv6 ++ part_text p.id))
    ≡ part_text q.nas.address ++ (part_text q.nas.identifier ++ (part_text q.nas.ipv6 ++ part_text q.id)) =
    ap (λ (l : List ℕ). behind (behind l)) e in
    let addresses = part-split p.nas.address q.nas.address
    (part_text p.nas.identifier ++ (part_text p.nas.ipv6 ++ part_text p.id))
    (part_text q.nas.identifier ++ (part_text q.nas.ipv6 ++ part_text q.id)) parts in
    let identifiers = part-split p.nas.identifier q.nas.identifier (part_text p.nas.ipv6 ++ part_text p.id)
    (part_text q.nas.ipv6 ++ part_text q.id) addresses.1 in
    let ipv6s = part-split p.nas.ipv6 q.nas.ipv6 (part_text p.id) (part_text q.id) identifiers.1 in
    asked-is p q (number-of p.peer q.peer high low) addresses.0 identifiers.0 ipv6s.0
    (part-is p.id q.id ipv6s.1)

-- a part agrees just where it is the one that is chosen
chosen : Option (List ℕ) → Option (List ℕ) → Option (List ℕ)
chosen asks own = if is_some asks then own else None

part-agrees : (asks own : Option (List ℕ)) → agrees_in asks own ≡ true → asks ≡ chosen asks own
unfolding chosen
part-agrees None own h = refl
part-agrees (Some a) None h = absurd (cc h)
part-agrees (Some a) (Some b) h = ap (λ (l : List ℕ). Some l) (octets-are a b h)

agrees-part : (asks own : Option (List ℕ)) → asks ≡ chosen asks own → agrees_in asks own ≡ true
unfolding chosen
agrees-part None own e = refl
agrees-part (Some a) None e = absurd (cc e)
agrees-part (Some a) (Some b) e = octets-same a b (some-is a b e)
  where
    some-is : (x y : List ℕ) → Some x ≡ Some y → x ≡ y
    some-is x y e = cc e

-- a part that is asked for and isn't there doesn't agree
lacks-part : (asks own : Option (List ℕ)) → (is_some asks && is_none own) ≡ true → agrees_in asks own ≡ false
lacks-part None own h = absurd (cc h)
lacks-part (Some a) None h = refl
lacks-part (Some a) (Some b) h = absurd (cc h)

module _ (q : Asked) (s : Session) where
  -- a session agrees just where what is asked is what is asked for it
  agrees-is : agrees q s ≡ true → q ≡ asked_by (mask_of q) s
  unfolding chosen
  agrees-is h =
      let outer = and_parts
      (q.peer == s.peer && agrees_in q.nas.address s.nas.address && agrees_in q.nas.identifier s.nas.identifier
      && agrees_in q.nas.ipv6 s.nas.ipv6)
      (agrees_in q.id (Some s.id)) h in
      let last = and_parts
      (q.peer == s.peer && agrees_in q.nas.address s.nas.address && agrees_in q.nas.identifier s.nas.identifier)
      (agrees_in q.nas.ipv6 s.nas.ipv6) outer.0 in
      let named = and_parts (q.peer == s.peer && agrees_in q.nas.address s.nas.address)
      (agrees_in q.nas.identifier s.nas.identifier) last.0 in
      let first = and_parts (q.peer == s.peer) (agrees_in q.nas.address s.nas.address) named.0 in
      asked-is q (asked_by (mask_of q) s) (number-is q.peer s.peer first.0)
      (part-agrees q.nas.address s.nas.address first.1) (part-agrees q.nas.identifier s.nas.identifier named.1)
      (part-agrees q.nas.ipv6 s.nas.ipv6 last.1) (part-agrees q.id (Some s.id) outer.1)

  is-agrees : q ≡ asked_by (mask_of q) s → agrees q s ≡ true
  unfolding chosen
  is-agrees e =
      and_from
      (q.peer == s.peer && agrees_in q.nas.address s.nas.address && agrees_in q.nas.identifier s.nas.identifier
      && agrees_in q.nas.ipv6 s.nas.ipv6)
      (agrees_in q.id (Some s.id))
      (and_from
      (q.peer == s.peer && agrees_in q.nas.address s.nas.address && agrees_in q.nas.identifier s.nas.identifier)
      (agrees_in q.nas.ipv6 s.nas.ipv6)
      (and_from (q.peer == s.peer && agrees_in q.nas.address s.nas.address)
      (agrees_in q.nas.identifier s.nas.identifier)
      (and_from (q.peer == s.peer) (agrees_in q.nas.address s.nas.address)
      (same-number q.peer s.peer (ap (λ (p : Asked). p.peer) e))
      (agrees-part q.nas.address s.nas.address (ap (λ (p : Asked). p.nas.address) e)))
      (agrees-part q.nas.identifier s.nas.identifier (ap (λ (p : Asked). p.nas.identifier) e)))
      (agrees-part q.nas.ipv6 s.nas.ipv6 (ap (λ (p : Asked). p.nas.ipv6) e)))
      (agrees-part q.id (Some s.id) (ap (λ (p : Asked). p.id) e))

  -- what doesn't agree by the names doesn't agree
  without-last :
      (q.peer == s.peer && agrees_in q.nas.address s.nas.address && agrees_in q.nas.identifier s.nas.identifier
      && agrees_in q.nas.ipv6 s.nas.ipv6) ≡ false → agrees q s ≡ false
  without-last fails =
      and_left
      (q.peer == s.peer && agrees_in q.nas.address s.nas.address && agrees_in q.nas.identifier s.nas.identifier
      && agrees_in q.nas.ipv6 s.nas.ipv6)
      (agrees_in q.id (Some s.id)) fails

  -- nor by one of the first two
  names-disagree :
      ((is_some q.nas.address && is_none s.nas.address)
      || (is_some q.nas.identifier && is_none s.nas.identifier)) ≡ true
      → (q.peer == s.peer && agrees_in q.nas.address s.nas.address && agrees_in q.nas.identifier s.nas.identifier
      && agrees_in q.nas.ipv6 s.nas.ipv6) ≡ false
  names-disagree h = elim (or_cases (is_some q.nas.address && is_none s.nas.address)
      (is_some q.nas.identifier && is_none s.nas.identifier) h) [
        | inl address ↦
            and_left
            (q.peer == s.peer && agrees_in q.nas.address s.nas.address && agrees_in q.nas.identifier s.nas.identifier)
            (agrees_in q.nas.ipv6 s.nas.ipv6)
            (and_left (q.peer == s.peer && agrees_in q.nas.address s.nas.address)
            (agrees_in q.nas.identifier s.nas.identifier)
            (and_right (q.peer == s.peer) (agrees_in q.nas.address s.nas.address)
            (lacks-part q.nas.address s.nas.address address)))
        | inr identifier ↦
            and_left
            (q.peer == s.peer && agrees_in q.nas.address s.nas.address && agrees_in q.nas.identifier s.nas.identifier)
            (agrees_in q.nas.ipv6 s.nas.ipv6)
            (and_right (q.peer == s.peer && agrees_in q.nas.address s.nas.address)
            (agrees_in q.nas.identifier s.nas.identifier)
            (lacks-part q.nas.identifier s.nas.identifier identifier))
      ]

  lacks-disagrees : lacks (mask_of q) s ≡ true → agrees q s ≡ false
  lacks-disagrees h = elim (or_cases
      ((is_some q.nas.address && is_none s.nas.address) || (is_some q.nas.identifier && is_none s.nas.identifier))
      (is_some q.nas.ipv6 && is_none s.nas.ipv6) h) [
        | inl either ↦ without-last (names-disagree either)
        | inr ipv6 ↦ without-last (and_right
            (q.peer == s.peer && agrees_in q.nas.address s.nas.address && agrees_in q.nas.identifier s.nas.identifier)
            (agrees_in q.nas.ipv6 s.nas.ipv6) (lacks-part q.nas.ipv6 s.nas.ipv6 ipv6))
      ]

  -- a session is asked for by its parts just where it agrees
  pub in-narrow : if_row (row_text q) (option_map row_text (narrow (mask_of q) s))
      ≡ (if agrees q s then Some (row_text q) else None)
  in-narrow = elim (cases_Bool (lacks (mask_of q) s)) [
    | inl lacking ↦ rw (lacking, lacks-disagrees lacking) refl
    | inr has ↦ rw has (elim (cases_Bool (bytes_eq (row_text q) (row_text (asked_by (mask_of q) s)))) [
      | inl same ↦ (
          let rows = octets-are (row_text q) (row_text (asked_by (mask_of q) s)) same in
          let agree = is-agrees (row-is q (asked_by (mask_of q) s) rows) in
          rw (same, agree) (ap (λ (l : List ℕ). Some l) (sym rows)))
      | inr apart ↦ rw apart (elim (cases_Bool (agrees q s)) [
        | inl agree ↦ absurd (
            let rows : row_text q ≡ row_text (asked_by (mask_of q) s) = ap row_text (agrees-is agree) in
            let same = octets-same (row_text q) (row_text (asked_by (mask_of q) s)) rows in cc (same, apart))
        | inr disagree ↦ rw disagree refl
      ])
    ])
  ]

  -- without names what is asked is then what is asked for it
  pub same-unnamed : is_some q.id ≡ true → agrees q s ≡ true → without_names q ≡ without_names (asked_for s)
  same-unnamed there h =
      let e = agrees-is h in
      asked-is (without_names q) (without_names (asked_for s)) (ap (λ (p : Asked). p.peer) e) refl refl refl
      (ap (λ (p : Asked). p.id) e ∙ rw there refl)

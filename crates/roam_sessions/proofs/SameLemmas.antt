-- When two sessions are the same, and which agree with what is asked.
use Rattle.std.proofs.Common.{◌≡◌, ◌≢◌, ℕ, ◌==◌, true, false, List, Option, Some, None, refl, sym, ap, ◌∙◌, inl, inr, arith}
use Rattle.std.specs.Prelude.{◌&&◌}
use Rattle.std.specs.Str.{bytes_eq}
use Rattle.std.proofs.lemmas.Bool.{and_from, and_left, and_parts, cases_Bool}
use Rattle.std.proofs.lemmas.Bool.Decides.{nat_tests}
use Rattle.std.proofs.lemmas.Slice.Eq.{bytes_eq-Decides}
use Rattle.roam_sessions.specs.Sessions.{Asked, Session, agrees, agrees_in, same_part, same_session}

pub same-number : (a b : ℕ) → a ≡ b → (a == b) ≡ true
same-number a b e = grind (arith, nat_tests)

pub other-number : (a b : ℕ) → a ≢ b → (a == b) ≡ false
other-number a b e = grind (arith, nat_tests)

pub number-is : (a b : ℕ) → (a == b) ≡ true → a ≡ b
number-is a b h = grind (arith, nat_tests)

-- octets that are the same
pub octets-are : (a b : List ℕ) → bytes_eq a b ≡ true → a ≡ b
octets-are a b h = (bytes_eq-Decides a b).0 h

pub octets-same : (a b : List ℕ) → a ≡ b → bytes_eq a b ≡ true
octets-same a b e = (bytes_eq-Decides a b).1 e

-- parts that are the same
part-itself : (o : Option (List ℕ)) → same_part o o ≡ true
part-itself None = refl
part-itself (Some octets) = octets-same octets octets refl

part-is : (a b : Option (List ℕ)) → same_part a b ≡ true → a ≡ b
part-is None None h = refl
part-is None (Some b) h = absurd (cc h)
part-is (Some a) None h = absurd (cc h)
part-is (Some a) (Some b) h = ap (λ (l : List ℕ). Some l) (octets-are a b h)

-- a session by its parts
session : ℕ → Option (List ℕ) → Option (List ℕ) → Option (List ℕ) → List ℕ → Session
session peer address identifier ipv6 id =
    record { peer = peer; nas = record { address = address; identifier = identifier; ipv6 = ipv6 }; id = id }

-- a session is the same as itself, and as no other
pub same-itself : (s : Session) → same_session s s ≡ true
same-itself s =
    and_from
    (s.peer == s.peer && same_part s.nas.address s.nas.address && same_part s.nas.identifier s.nas.identifier
    && same_part s.nas.ipv6 s.nas.ipv6)
    (bytes_eq s.id s.id)
    (and_from (s.peer == s.peer && same_part s.nas.address s.nas.address && same_part s.nas.identifier s.nas.identifier)
    (same_part s.nas.ipv6 s.nas.ipv6)
    (and_from (s.peer == s.peer && same_part s.nas.address s.nas.address)
    (same_part s.nas.identifier s.nas.identifier)
    (and_from (s.peer == s.peer) (same_part s.nas.address s.nas.address) (same-number s.peer s.peer refl)
    (part-itself s.nas.address))
    (part-itself s.nas.identifier))
    (part-itself s.nas.ipv6))
    (octets-same s.id s.id refl)

pub same-is : (a b : Session) → same_session a b ≡ true → a ≡ b
unfolding session
same-is a b h =
    let outer = and_parts
    (a.peer == b.peer && same_part a.nas.address b.nas.address && same_part a.nas.identifier b.nas.identifier
    && same_part a.nas.ipv6 b.nas.ipv6)
    (bytes_eq a.id b.id) h in
    let last = and_parts
    (a.peer == b.peer && same_part a.nas.address b.nas.address && same_part a.nas.identifier b.nas.identifier)
    (same_part a.nas.ipv6 b.nas.ipv6) outer.0 in
    let named = and_parts (a.peer == b.peer && same_part a.nas.address b.nas.address)
    (same_part a.nas.identifier b.nas.identifier) last.0 in
    let first = and_parts (a.peer == b.peer) (same_part a.nas.address b.nas.address) named.0 in
    ap (λ (n : ℕ). session n a.nas.address a.nas.identifier a.nas.ipv6 a.id) (number-is a.peer b.peer first.0)
    ∙ ap (λ (o : Option (List ℕ)). session b.peer o a.nas.identifier a.nas.ipv6 a.id)
    (part-is a.nas.address b.nas.address first.1)
    ∙ ap (λ (o : Option (List ℕ)). session b.peer b.nas.address o a.nas.ipv6 a.id)
    (part-is a.nas.identifier b.nas.identifier named.1)
    ∙ ap (λ (o : Option (List ℕ)). session b.peer b.nas.address b.nas.identifier o a.id)
    (part-is a.nas.ipv6 b.nas.ipv6 last.1)
    ∙ ap (λ (l : List ℕ). session b.peer b.nas.address b.nas.identifier b.nas.ipv6 l)
    (octets-are a.id b.id outer.1)

-- two that are not the same are two
pub apart-differ : (a b : Session) → same_session a b ≡ false → a ≢ b
apart-differ a b h e =
    let same : same_session a b ≡ true = ap (same_session a) (sym e) ∙ same-itself a in absurd (cc)

pub differ-apart : (a b : Session) → a ≢ b → same_session a b ≡ false
differ-apart a b ne = elim (cases_Bool (same_session a b)) [
  | inl same ↦ absurd (ne (same-is a b same))
  | inr other ↦ other
]

-- which of two is named first doesn't matter
pub other-way : (a b : Session) → same_session a b ≡ false → same_session b a ≡ false
other-way a b h = differ-apart b a (λ e. apart-differ a b h (sym e))

-- a session of another peer doesn't agree
pub peers-disagree : (q : Asked) (s : Session) → s.peer ≢ q.peer → agrees q s ≡ false
peers-disagree q s ne =
    and_left
    (q.peer == s.peer && agrees_in q.nas.address s.nas.address && agrees_in q.nas.identifier s.nas.identifier
    && agrees_in q.nas.ipv6 s.nas.ipv6)
    (agrees_in q.id (Some s.id))
    (and_left (q.peer == s.peer && agrees_in q.nas.address s.nas.address && agrees_in q.nas.identifier s.nas.identifier)
    (agrees_in q.nas.ipv6 s.nas.ipv6)
    (and_left (q.peer == s.peer && agrees_in q.nas.address s.nas.address) (agrees_in q.nas.identifier s.nas.identifier)
    (and_left (q.peer == s.peer) (agrees_in q.nas.address s.nas.address)
    (other-number q.peer s.peer (λ e. ne (sym e))))))

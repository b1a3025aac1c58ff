-- Which sessions an Accounting-On ended.
use Rattle.std.proofs.Common.{◌≡◌, ℕ, ◌<◌, ◌≤◌, ◌==◌, Bool, true, false, List, Option, Some, None, refl, sym, ap, ◌∙◌, arith}
use Rattle.std.specs.Prelude.{◌&&◌, nat_lt}
use Rattle.std.proofs.lemmas.Bool.{and_from, and_left, and_parts, le-ltb}
use Rattle.std.proofs.lemmas.Bool.Decides.{nat_tests}
use Rattle.roam_sessions.specs.Ended.{ended_asked, is_ended}
use Rattle.roam_sessions.specs.Private.Masks.{has_names}
use Rattle.roam_sessions.specs.Sessions.{Asked, Nas, Session, agrees, agrees_in}
use Rattle.roam_sessions.specs.declared.ended.Ended.{Ended}
use Rattle.roam_sessions.proofs.SameLemmas.{number-is, octets-are, octets-same, same-number}

-- nothing comes of a test that a number passes where it isn't before an end
pub not-before : (e : Ended) (t : ℕ) (s : Session) → e.before ≤ t → is_ended e t s ≡ false
not-before e t s le = and_left (nat_lt t e.before) (agrees (ended_asked e) s) (le-ltb t e.before le)

pub ended-parts : (e : Ended) (t : ℕ) (s : Session) → is_ended e t s ≡ true
    → (t < e.before) × (agrees (ended_asked e) s ≡ true)
ended-parts e t s is =
    let parts = and_parts (nat_lt t e.before) (agrees (ended_asked e) s) is in
    (below t e.before parts.0, parts.1)
  where
    below : (a b : ℕ) → nat_lt a b ≡ true → a < b
    below a b h = grind (arith, nat_tests)

-- names that have those that are asked for, and are asked for themselves
part-through : (a b c : Option (List ℕ)) → agrees_in a b ≡ true → agrees_in b c ≡ true → agrees_in a c ≡ true
part-through None b c first second = refl
part-through (Some x) None c first second = absurd (cc first)
part-through (Some x) (Some y) None first second = absurd (cc second)
part-through (Some x) (Some y) (Some z) first second =
    octets-same x z (octets-are x y first ∙ octets-are y z second)

-- what asks for no id asks for names alone
and-true : (b : Bool) → (b && true) ≡ b
and-true true = refl
and-true false = refl

any-id : (o : Option (List ℕ)) (own : List ℕ) → o ≡ None → agrees_in o (Some own) ≡ true
any-id None own is = refl
any-id (Some x) own is = absurd (cc is)

pub names-agree : (q : Asked) (s : Session) → q.id ≡ None → agrees q s ≡ has_names q s.peer s.nas
names-agree q s none =
    ap (λ (b : Bool). has_names q s.peer s.nas && b) (any-id q.id s.id none) ∙ and-true (has_names q s.peer s.nas)

record Names (q : Asked) (own_peer : ℕ) (nas : Nas) : Type 0 where
  peer : q.peer ≡ own_peer
  address : agrees_in q.nas.address nas.address ≡ true
  identifier : agrees_in q.nas.identifier nas.identifier ≡ true
  ipv6 : agrees_in q.nas.ipv6 nas.ipv6 ≡ true

names-of : (q : Asked) (peer : ℕ) (nas : Nas) → has_names q peer nas ≡ true → Names q peer nas
names-of q peer nas h =
    let last = and_parts
    (q.peer == peer && agrees_in q.nas.address nas.address && agrees_in q.nas.identifier nas.identifier)
    (agrees_in q.nas.ipv6 nas.ipv6) h in
    let named = and_parts (q.peer == peer && agrees_in q.nas.address nas.address)
    (agrees_in q.nas.identifier nas.identifier) last.0 in
    let first = and_parts (q.peer == peer) (agrees_in q.nas.address nas.address) named.0 in
    record {
      peer = number-is q.peer peer first.0;
      address = first.1;
      identifier = named.1;
      ipv6 = last.1;
    }

of-names : (q : Asked) (peer : ℕ) (nas : Nas) → Names q peer nas → has_names q peer nas ≡ true
of-names q peer nas n =
    and_from
    (q.peer == peer && agrees_in q.nas.address nas.address && agrees_in q.nas.identifier nas.identifier)
    (agrees_in q.nas.ipv6 nas.ipv6)
    (and_from (q.peer == peer && agrees_in q.nas.address nas.address) (agrees_in q.nas.identifier nas.identifier)
    (and_from (q.peer == peer) (agrees_in q.nas.address nas.address) (same-number q.peer peer n.peer) n.address)
    n.identifier)
    n.ipv6

-- those that an end ended agree with what is asked, where its names do
pub within-agrees : (q : Asked) (e : Ended) (t : ℕ) (s : Session) → q.id ≡ None
    → has_names q e.peer (ended_asked e).nas ≡ true → is_ended e t s ≡ true → agrees q s ≡ true
within-agrees q e t s none within is =
    let outer = names-of q e.peer (ended_asked e).nas within in
    let own = sym (names-agree (ended_asked e) s refl) ∙ (ended-parts e t s is).1 in
    let inner = names-of (ended_asked e) s.peer s.nas own in
    names-agree q s none ∙ of-names q s.peer s.nas (record {
      peer = outer.peer ∙ inner.peer;
      address = part-through q.nas.address (ended_asked e).nas.address s.nas.address outer.address inner.address;
      identifier = part-through q.nas.identifier (ended_asked e).nas.identifier s.nas.identifier outer.identifier
          inner.identifier;
      ipv6 = part-through q.nas.ipv6 (ended_asked e).nas.ipv6 s.nas.ipv6 outer.ipv6 inner.ipv6;
    })

pub ended-of-peer : (e : Ended) (t : ℕ) (s : Session) → is_ended e t s ≡ true → e.peer ≡ s.peer
ended-of-peer e t s is =
    (names-of (ended_asked e) s.peer s.nas (sym (names-agree (ended_asked e) s refl) ∙ (ended-parts e t s is).1)).peer

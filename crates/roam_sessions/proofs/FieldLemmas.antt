-- A field that is read is the field that was written, and what was written is read again.
use Rattle.std.proofs.Common.{◌≡◌, ℕ, zero, suc, ◌≤◌, Bool, true, false, cond, ltb, List, [], ◌∷◌, ◌++◌, length, take, drop, Option, Some, None, Result, Ok, Err, refl, sym, ap, subst, ◌∙◌, append_assoc, arith}
use Rattle.std.specs.Prelude.{not}
use Rattle.std.specs.Str.{bytes_eq}
use Rattle.std.proofs.lemmas.Bool.{ltb-false, le-ltb}
use Rattle.std.proofs.lemmas.List.{take_at, drop_at, take-append-drop, length-append, length-take}
use Rattle.std.proofs.lemmas.Slice.Eq.{bytes_eq-Decides}
use Rattle.roam_sessions.specs.declared.fault.LedgerFault.{LedgerFault}
use Rattle.roam_sessions.specs.declared.fault.LedgerFault.TheVariants.{Cut, Foreign, Version}
use Rattle.roam_sessions.specs.Ledgers.{SavedItem, SavedSession, family, flag, head, item_text, optional, realm, session_text, text, version}
use Rattle.roam_sessions.specs.Reading.{◌>>=◌, flag_at, head_at, optional_at, realm_at, session_at, text_at}

-- the value of a step that did not fail
pub bind_ok :
    {A B : Type 0} (r : Result A LedgerFault) (f : A → Result B LedgerFault) (y : B) → (r >>= f) ≡ Ok y
    → (x : A) × (r ≡ Ok x) × (f x ≡ Ok y)
bind_ok (Ok x) f y e = (x, refl, e)
bind_ok (Err d) f y e = absurd cc

-- a test that did not fail
pub chosen_ok :
    {A : Type 0} (b : Bool) (d : LedgerFault) (r : Result A LedgerFault) (y : A) → cond b (Err d) r ≡ Ok y
    → (b ≡ false) × (r ≡ Ok y)
chosen_ok true d r y e = absurd cc
chosen_ok false d r y e = (refl, e)

abbrev done : {A : Type 0} → A → Result A LedgerFault
done x = Ok x

pub ok_is : {A : Type 0} (x y : A) → done x ≡ done y → x ≡ y
ok_is x y e = cc

not_false : (b : Bool) → not b ≡ false → b ≡ true
not_false true e = refl
not_false false e = absurd cc

-- one piece behind another
pub takes_then : (a x b y c : List ℕ) → a ≡ x ++ b → b ≡ y ++ c → a ≡ (x ++ y) ++ c
takes_then a x b y c p q = p ∙ ap (λ (t : List ℕ). x ++ t) q ∙ sym (append_assoc x y c)

five_take : (octets p r a s i t v u d rest : List ℕ) → octets ≡ p ++ r → r ≡ a ++ s → s ≡ i ++ t → t ≡ v ++ u →
    u ≡ d ++ rest → octets ≡ (p ++ a ++ i ++ v ++ d) ++ rest
five_take octets p r a s i t v u d rest first second third fourth last =
    takes_then octets (p ++ a ++ i ++ v) u d rest (takes_then octets (p ++ a ++ i) t v u (takes_then octets (p ++ a) s i
    t (takes_then octets p r a s first second) third) fourth) last

-- ---- the head

pub head_takes : (octets rest : List ℕ) → head_at octets ≡ Ok rest → octets ≡ head ++ rest
unfolding head_at
head_takes octets rest e =
    let a = chosen_ok (ltb (length octets) 15) Foreign _ rest e in
    let b = chosen_ok (not (bytes_eq (take 13 octets) family)) Foreign _ rest a.1 in
    let c = chosen_ok (not (bytes_eq (take 2 (drop 13 octets)) version)) Version _ rest b.1 in
    let of_family : take 13 octets ≡ family = (bytes_eq-Decides _ _).0 (not_false _ b.0) in
    let of_version : take 2 (drop 13 octets) ≡ version = (bytes_eq-Decides _ _).0 (not_false _ c.0) in
    let last : drop 2 (drop 13 octets) ≡ rest = ok_is _ _ c.1 in
    let first_part : octets ≡ family ++ drop 13 octets =
    sym (take-append-drop 13 octets) ∙ ap (λ (x : List ℕ). x ++ drop 13 octets) of_family in
    let second_part : drop 13 octets ≡ version ++ rest =
    sym (take-append-drop 2 (drop 13 octets)) ∙ ap (λ (x : List ℕ). x ++ drop 2 (drop 13 octets)) of_version
    ∙ ap (λ (x : List ℕ). version ++ x) last in
    takes_then octets family (drop 13 octets) version rest first_part second_part

pub head_again : (rest : List ℕ) → head_at (head ++ rest) ≡ Ok rest
unfolding head_at
head_again rest =
    let long : ltb (length (head ++ rest)) 15 ≡ false = le-ltb _ _ (omega (arith, length-append head rest)) in
    rw long refl

-- ---- texts

pub text_takes : (octets t rest : List ℕ) → text_at octets ≡ Ok (t, rest) → octets ≡ text t ++ rest
unfolding text_at
text_takes [] t rest e = absurd cc
text_takes (size ∷ more) t rest e =
    let g = chosen_ok (ltb (length more) size) Cut (Ok (take size more, drop size more)) (t, rest) e in
    let long : size ≤ length more = ltb-false _ _ g.0 in
    let len : length (take size more) ≡ size = omega (arith, length-take size more) in
    let whole : size ∷ more ≡ text (take size more) ++ drop size more =
    ap (λ (k : ℕ). k ∷ more) (sym len)
    ∙ ap (λ (r : List ℕ). length (take size more) ∷ r) (sym (take-append-drop size more)) in
    subst (λ (p : List ℕ × List ℕ). size ∷ more ≡ text p.0 ++ p.1)
    (ok_is (take size more, drop size more) (t, rest) g.1) whole

pub text_again : (t rest : List ℕ) → text_at (text t ++ rest) ≡ Ok (t, rest)
unfolding text_at
text_again t rest =
    let long : ltb (length (t ++ rest)) (length t) ≡ false = le-ltb _ _ (omega (arith, length-append t rest)) in
    rw (long, take_at t rest (length t) refl, drop_at t rest (length t) refl) refl

-- ---- a text behind a flag, and a flag

pub optional_takes :
    (octets : List ℕ) (o : Option (List ℕ)) (rest : List ℕ) → optional_at octets ≡ Ok (o, rest)
    → octets ≡ optional o ++ rest
unfolding optional_at
optional_takes [] o rest e = absurd cc
optional_takes (zero ∷ more) o rest e =
    subst (λ (x : Option (List ℕ) × List ℕ). 0 ∷ more ≡ optional x.0 ++ x.1) (ok_is (None, more) (o, rest) e) refl
optional_takes (suc zero ∷ more) o rest e =
    let b = bind_ok (text_at more) (λ t. Ok (Some t.0, t.1)) (o, rest) e in
    let t = text_takes more b.0.0 b.0.1 b.1 in
    subst (λ (x : Option (List ℕ) × List ℕ). 1 ∷ more ≡ optional x.0 ++ x.1)
    (ok_is (Some b.0.0, b.0.1) (o, rest) b.2) (ap (λ (w : List ℕ). 1 ∷ w) t)
optional_takes (suc (suc b) ∷ more) o rest e = absurd cc

pub optional_again : (o : Option (List ℕ)) (rest : List ℕ) → optional_at (optional o ++ rest) ≡ Ok (o, rest)
unfolding optional_at
optional_again None rest = refl
optional_again (Some t) rest = rw (text_again t rest) refl

pub flag_takes :
    (octets : List ℕ) (own : Bool) (rest : List ℕ) → flag_at octets ≡ Ok (own, rest) → octets ≡ flag own ∷ rest
unfolding flag_at
flag_takes [] own rest e = absurd cc
flag_takes (zero ∷ more) own rest e =
    subst (λ (x : Bool × List ℕ). 0 ∷ more ≡ flag x.0 ∷ x.1) (ok_is (false, more) (own, rest) e) refl
flag_takes (suc zero ∷ more) own rest e =
    subst (λ (x : Bool × List ℕ). 1 ∷ more ≡ flag x.0 ∷ x.1) (ok_is (true, more) (own, rest) e) refl
flag_takes (suc (suc b) ∷ more) own rest e = absurd cc

pub flag_again : (own : Bool) (rest : List ℕ) → flag_at (flag own ∷ rest) ≡ Ok (own, rest)
unfolding flag_at
flag_again false rest = refl
flag_again true rest = refl

-- ---- a realm, and a session

pub realm_takes :
    (octets : List ℕ) (i : SavedItem) (rest : List ℕ) → realm_at octets ≡ Ok (i, rest)
    → 1 ∷ octets ≡ item_text i ++ rest
unfolding realm_at
realm_takes octets i rest e =
    let a = bind_ok (flag_at octets) (λ own. text_at own.1 >>= λ name. Ok (realm name.0 own.0, name.1)) (i, rest) e in
    let b = bind_ok (text_at a.0.1) (λ name. Ok (realm name.0 a.0.0, name.1)) (i, rest) a.2 in
    let first = flag_takes octets a.0.0 a.0.1 a.1 in
    let second = text_takes a.0.1 b.0.0 b.0.1 b.1 in
    let both = ap (λ (w : List ℕ). 1 ∷ w) (first ∙ ap (λ (w : List ℕ). flag a.0.0 ∷ w) second) in
    subst (λ (x : SavedItem × List ℕ). 1 ∷ octets ≡ item_text x.0 ++ x.1)
    (ok_is (realm b.0.0 a.0.0, b.0.1) (i, rest) b.2) both

pub realm_again :
    (name : List ℕ) (own : Bool) (rest : List ℕ)
    → realm_at (flag own ∷ text name ++ rest) ≡ Ok (realm name own, rest)
unfolding realm_at
realm_again name own rest = rw (flag_again own (text name ++ rest), text_again name rest) refl

pub session_takes :
    (octets : List ℕ) (s : SavedSession) (rest : List ℕ) → session_at octets ≡ Ok (s, rest)
    → octets ≡ session_text s ++ rest
unfolding session_at
session_takes octets s rest e =
    let a = bind_ok (text_at octets)
    (λ peer. optional_at peer.1 >>= λ address. optional_at address.1 >>= λ identifier. optional_at identifier.1 >>=
    λ ipv6. text_at ipv6.1 >>= λ id. Ok (
      record {
        peer = peer.0;
        address = address.0;
        identifier = identifier.0;
        ipv6 = ipv6.0;
        id = id.0;
      },
      id.1,
    )) (s, rest) e in
    let b = bind_ok (optional_at a.0.1)
    (λ address. optional_at address.1 >>= λ identifier. optional_at identifier.1 >>= λ ipv6. text_at ipv6.1 >>= λ id.
    Ok (
      record {
        peer = a.0.0;
        address = address.0;
        identifier = identifier.0;
        ipv6 = ipv6.0;
        id = id.0;
      },
      id.1,
    )) (s, rest) a.2 in
    let c = bind_ok (optional_at b.0.1)
    (λ identifier. optional_at identifier.1 >>= λ ipv6. text_at ipv6.1 >>= λ id. Ok (
      record {
        peer = a.0.0;
        address = b.0.0;
        identifier = identifier.0;
        ipv6 = ipv6.0;
        id = id.0;
      },
      id.1,
    )) (s, rest) b.2 in
    let v = bind_ok (optional_at c.0.1)
    (λ ipv6. text_at ipv6.1 >>= λ id. Ok (
      record {
        peer = a.0.0;
        address = b.0.0;
        identifier = c.0.0;
        ipv6 = ipv6.0;
        id = id.0;
      },
      id.1,
    )) (s, rest) c.2 in
    let d = bind_ok (text_at v.0.1)
    (λ id. Ok (record { peer = a.0.0; address = b.0.0; identifier = c.0.0; ipv6 = v.0.0; id = id.0 }, id.1)) (s, rest)
    v.2 in
    let whole = five_take octets (text a.0.0) a.0.1 (optional b.0.0) b.0.1 (optional c.0.0) c.0.1 (optional v.0.0) v.0.1
    (text d.0.0) d.0.1 (text_takes octets a.0.0 a.0.1 a.1) (optional_takes a.0.1 b.0.0 b.0.1 b.1)
    (optional_takes b.0.1 c.0.0 c.0.1 c.1) (optional_takes c.0.1 v.0.0 v.0.1 v.1) (text_takes v.0.1 d.0.0 d.0.1 d.1) in
    let made : SavedSession × List ℕ =
    (record { peer = a.0.0; address = b.0.0; identifier = c.0.0; ipv6 = v.0.0; id = d.0.0 }, d.0.1) in
    subst (λ (x : SavedSession × List ℕ). octets ≡ session_text x.0 ++ x.1) (ok_is made (s, rest) d.2) whole

pub session_again : (s : SavedSession) (rest : List ℕ) → session_at (session_text s ++ rest) ≡ Ok (s, rest)
unfolding session_at
session_again s rest =
    let last : List ℕ = text s.id ++ rest in
    let names : List ℕ = optional s.identifier ++ (optional s.ipv6 ++ last) in
    let regrouped : session_text s ++ rest ≡ text s.peer ++ (optional s.address ++ names) =
    append_assoc (text s.peer ++ optional s.address ++ optional s.identifier ++ optional s.ipv6) (text s.id) rest
    ∙ append_assoc (text s.peer ++ optional s.address ++ optional s.identifier) (optional s.ipv6) last
    ∙ append_assoc (text s.peer ++ optional s.address) (optional s.identifier) (optional s.ipv6 ++ last)
    ∙ append_assoc (text s.peer) (optional s.address) names in
    ap session_at regrouped
    ∙ rw (
      text_again s.peer (optional s.address ++ names),
      optional_again s.address names,
      optional_again s.identifier (optional s.ipv6 ++ last),
      optional_again s.ipv6 last,
      text_again s.id rest,
    ) refl

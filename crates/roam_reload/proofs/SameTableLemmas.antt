-- Two tables of one peer, or of one realm: what meets in a third is the same, and no two tables of a configuration are.
use Rattle.std.proofs.Common.{◌≡◌, ℕ, Bool, true, false, ◌&&◌, ◌||◌, not, List, [], ◌∷◌, ◌++◌, refl, sym, ap, ◌∙◌}
use Rattle.std.proofs.lemmas.Bool.{or_parts, true≢false}
use Rattle.std.proofs.lemmas.List.{append_assoc}
use Rattle.std.proofs.lemmas.Slice.Eq.{bytes_eq-Decides}
use Rattle.std.specs.List.{flat_map, list_any}
use Rattle.std.specs.Prelude.{if◌then◌else◌}
use Rattle.std.specs.Str.{bytes_eq, str_eq_ignore_ascii_case, str_to_ascii_lowercase}
use Rattle.roam_conf.specs.Config.{PatternView, whole, PeerView, RealmView}
use Rattle.roam_conf.specs.Duplicates.{has_duplicate_peer, has_duplicate_prefix, has_duplicate_realm, has_pair, nas_texts, same_peer}
use Rattle.roam_conf.specs.Patterns.{patterns_of, same_pattern}
use Rattle.roam_reload.specs.Numbers.{same_peer_name, same_realm_name}
use Rattle.roam_reload.proofs.LayingLemmas.{fewer_pairs}

-- both are here, and have one name
both_here : (a b c : Bool) → not a && not b && c ≡ true → (a ≡ false) × (b ≡ false) × (c ≡ true)
both_here false false c is = (refl, refl, is)
both_here false true c is = absurd (true≢false (sym is))
both_here true b c is = absurd (true≢false (sym is))

are_same : (a b c : Bool) → a ≡ false → b ≡ false → c ≡ true → not a && not b && c ≡ true
are_same a b c here there same = rw (here, there, same) refl

-- names that meet in a third are equal
same_bytes : (a b c : List ℕ) → bytes_eq a b ≡ true → bytes_eq c b ≡ true → bytes_eq a c ≡ true
same_bytes a b c one two = (bytes_eq-Decides a c).1 ((bytes_eq-Decides a b).0 one ∙ sym ((bytes_eq-Decides c b).0 two))

same_two : (a b c : List ℕ) → bytes_eq a b ≡ true → bytes_eq a c ≡ true → bytes_eq b c ≡ true
same_two a b c one two = (bytes_eq-Decides b c).1 (sym ((bytes_eq-Decides a b).0 one) ∙ (bytes_eq-Decides a c).0 two)

pub peers_meet : (t x y : PeerView) → same_peer_name t y ≡ true → same_peer_name x y ≡ true →
    same_peer_name t x ≡ true
peers_meet t x y one two =
    let p = both_here t.gone y.gone (bytes_eq t.name y.name) one in
    let q = both_here x.gone y.gone (bytes_eq x.name y.name) two in
    are_same t.gone x.gone _ p.0 q.0 (same_bytes t.name y.name x.name p.2 q.2)

pub peers_part : (x y z : PeerView) → same_peer_name x y ≡ true → same_peer_name x z ≡ true →
    same_peer_name y z ≡ true
peers_part x y z one two =
    let p = both_here x.gone y.gone (bytes_eq x.name y.name) one in
    let q = both_here x.gone z.gone (bytes_eq x.name z.name) two in
    are_same y.gone z.gone _ p.1 q.1 (same_two x.name y.name z.name p.2 q.2)

abbrev low : RealmView → List ℕ
low realm = str_to_ascii_lowercase realm.name

pub realms_meet : (t x y : RealmView) → same_realm_name t y ≡ true → same_realm_name x y ≡ true →
    same_realm_name t x ≡ true
realms_meet t x y one two =
    let p = both_here t.gone y.gone (bytes_eq (low t) (low y)) one in
    let q = both_here x.gone y.gone (bytes_eq (low x) (low y)) two in
    are_same t.gone x.gone _ p.0 q.0 (same_bytes (low t) (low y) (low x) p.2 q.2)

pub realms_part : (x y z : RealmView) → same_realm_name x y ≡ true → same_realm_name x z ≡ true →
    same_realm_name y z ≡ true
realms_part x y z one two =
    let p = both_here x.gone y.gone (bytes_eq (low x) (low y)) one in
    let q = both_here x.gone z.gone (bytes_eq (low x) (low z)) two in
    are_same y.gone z.gone _ p.1 q.1 (same_two (low x) (low y) (low z) p.2 q.2)

-- ---- no two peers of a configuration have one name

closer_peer : (a b : PeerView) → same_peer_name a b ≡ true → same_peer a b ≡ true
closer_peer a b is =
    let p = both_here a.gone b.gone (bytes_eq a.name b.name) is in
    rw (p.0, p.1, p.2) refl

pub peers_differ : (peers : List PeerView) → has_duplicate_peer peers ≡ false → has_pair same_peer_name peers ≡ false
unfolding has_duplicate_peer
peers_differ peers none =
    let before = (or_parts (has_pair same_peer peers || has_duplicate_prefix peers)
    (has_pair bytes_eq (nas_texts peers)) none).0 in
    fewer_pairs same_peer same_peer_name closer_peer peers
    (or_parts (has_pair same_peer peers) (has_duplicate_prefix peers) before).0

-- ---- nor two realms, without ASCII case

-- what isn't in a list isn't in what stands behind its front
behind_front : (test : PatternView → Bool) (front back : List PatternView) →
    list_any test (front ++ back) ≡ false → list_any test back ≡ false
behind_front test [] back none = none
behind_front test (p ∷ front) back none =
    behind_front test front back (or_parts (test p) (list_any test (front ++ back)) none).1

pairs_behind : (front back : List PatternView) → has_pair same_pattern (front ++ back) ≡ false →
    has_pair same_pattern back ≡ false
pairs_behind [] back none = none
pairs_behind (p ∷ front) back none =
    pairs_behind front back
    (or_parts (list_any (same_pattern p) (front ++ back)) (has_pair same_pattern (front ++ back)) none).1

-- the patterns of a realm, in front of others
abbrev with_patterns : Bool → RealmView → List PatternView → List PatternView
with_patterns gone r back = (if gone then [] else whole r.name ∷ r.also) ++ back

others : (r : RealmView) (realms : List RealmView) (more : List PatternView) →
    flat_map patterns_of (r ∷ realms) ++ more ≡ with_patterns r.gone r (flat_map patterns_of realms ++ more)
others r realms more = append_assoc (patterns_of r) (flat_map patterns_of realms) more

-- a name is none of those of the realms behind it
unnamed : (r : RealmView) (realms : List RealmView) (more : List PatternView) →
    list_any (same_pattern (whole r.name)) (flat_map patterns_of realms ++ more) ≡ false →
    list_any (same_realm_name r) realms ≡ false
unnamed r [] more none = refl
unnamed r (s ∷ ss) more none =
    by_gone (λ e. unnamed r ss more e) s.gone
    (sym (ap (list_any (same_pattern (whole r.name))) (others s ss more)) ∙ none)
  where
    never : (gone : Bool) → not gone && false ≡ false
    never true = refl
    never false = refl

    by_gone : (list_any (same_pattern (whole r.name)) (flat_map patterns_of ss ++ more) ≡ false →
        list_any (same_realm_name r) ss ≡ false) → (gone : Bool) →
        list_any (same_pattern (whole r.name)) (with_patterns gone s (flat_map patterns_of ss ++ more)) ≡ false →
        (not r.gone && not gone && str_eq_ignore_ascii_case r.name s.name) || list_any (same_realm_name r) ss ≡ false
    by_gone later true no_one =
        ap (λ b. (b && str_eq_ignore_ascii_case r.name s.name) || list_any (same_realm_name r) ss) (never r.gone)
        ∙ later no_one
    by_gone later false no_one =
        let parts = or_parts (str_eq_ignore_ascii_case r.name s.name)
        (list_any (same_pattern (whole r.name)) (s.also ++ (flat_map patterns_of ss ++ more))) no_one in
        ap (λ b. (not r.gone && true && b) || list_any (same_realm_name r) ss) parts.0
        ∙ ap (λ b. b || list_any (same_realm_name r) ss) (no_more r.gone)
        ∙ later (behind_front (same_pattern (whole r.name)) s.also (flat_map patterns_of ss ++ more) parts.1)
      where
        no_more : (gone : Bool) → not gone && true && false ≡ false
        no_more true = refl
        no_more false = refl

realms_apart : (realms : List RealmView) (more : List PatternView) →
    has_pair same_pattern (flat_map patterns_of realms ++ more) ≡ false → has_pair same_realm_name realms ≡ false
realms_apart [] more none = refl
realms_apart (r ∷ rs) more none =
    by_gone (λ e. realms_apart rs more e) r.gone refl (sym (ap (has_pair same_pattern) (others r rs more)) ∙ none)
  where
    none_named : (realms : List RealmView) → r.gone ≡ true → list_any (same_realm_name r) realms ≡ false
    none_named [] is = refl
    none_named (s ∷ ss) is =
        ap (λ b. (not b && not s.gone && str_eq_ignore_ascii_case r.name s.name) || list_any (same_realm_name r) ss) is
        ∙ none_named ss is

    by_gone : (has_pair same_pattern (flat_map patterns_of rs ++ more) ≡ false → has_pair same_realm_name rs ≡ false) →
        (gone : Bool) → r.gone ≡ gone →
        has_pair same_pattern (with_patterns gone r (flat_map patterns_of rs ++ more)) ≡ false →
        has_pair same_realm_name (r ∷ rs) ≡ false
    by_gone later true is no_pair =
        ap (λ b. b || has_pair same_realm_name rs) (none_named rs is) ∙ later no_pair
    by_gone later false is no_pair =
        let parts = or_parts (list_any (same_pattern (whole r.name)) (r.also ++ (flat_map patterns_of rs ++ more)))
        (has_pair same_pattern (r.also ++ (flat_map patterns_of rs ++ more))) no_pair in
        ap (λ b. b || has_pair same_realm_name rs)
        (unnamed r rs more
        (behind_front (same_pattern (whole r.name)) r.also (flat_map patterns_of rs ++ more) parts.0))
        ∙ later (pairs_behind r.also (flat_map patterns_of rs ++ more) parts.1)

pub realms_differ : (realms : List RealmView) (reject : List PatternView) → has_duplicate_realm realms reject ≡ false →
    has_pair same_realm_name realms ≡ false
unfolding has_duplicate_realm
realms_differ realms reject none = realms_apart realms reject none

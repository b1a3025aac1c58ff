-- What is counted of a realm's sessions that go by a change is as many as there are fewer then.
use Rattle.std.proofs.Common.{◌≡◌, ℕ, ◌+◌, ◌-◌, ◌<◌, ◌≤◌, ◌==◌, ◌||◌, Bool, true, false, not, List, [], ◌∷◌, Option, Some, None, option_map, refl, sym, ap, subst, ◌∙◌, arith, inl, inr, length, map, drop, length-drop, nat_lt, slice_get, unwrap_or, if◌then◌else◌}
use Rattle.std.specs.List.{AllByRecursion, filter}
use Rattle.std.specs.Option.{option_map_or}
use Rattle.std.proofs.lemmas.Bool.{cases_Bool}
use Rattle.std.proofs.lemmas.Bool.Decides.{nat_tests}
use Rattle.std.proofs.lemmas.Option.{slice_get-map, slice_get_within}
use Rattle.roam_conf.specs.Config.{PeerView}
use Rattle.roam_pending.specs.ListLaws.{IsIn}
use Rattle.roam_pending.proofs.TestLemmas.{differs, same}
use Rattle.roam_reload.specs.Kept.{keeps_sessions, of_peer, same_sessions}
use Rattle.roam_reload.specs.Reload.{peer_part}
use Rattle.roam_reload.proofs.PeerLemmas.{kept_part}
use Rattle.roam_sessions.specs.Sessions.{Session, count_of_peer}
use Rattle.roam_realm.specs.RealmConfig.{RealmConfig}
use Rattle.roam_migrate.specs.Carrying.{AreChanged, AreRising}
use Rattle.roam_migrate.specs.Private.Lost.{counted, is_of_gone, newest_lost, of_one_peer, one_if, sessions_lost}
use Rattle.roam_migrate.specs.Reload.{newest, sessions_then}
use Rattle.roam_migrate.proofs.LossLemmas.{counted_first, few_count}

-- how many sessions go with these peers
abbrev pub gone_with : List PeerView → List PeerView → List Session → List ℕ → ℕ
gone_with old new ss [] = 0
gone_with old new ss (p ∷ ps) = of_one_peer old new ss p + gone_with old new ss ps

-- ---- one session more

-- how often it goes
abbrev times : List PeerView → List PeerView → ℕ → List ℕ → ℕ
times old new peer [] = 0
times old new peer (p ∷ ps) =
    (if of_peer keeps_sessions old new p then 0 else one_if (peer == p)) + times old new peer ps

one_peer_more : (old new : List PeerView) (s : Session) (ss : List Session) (p : ℕ) (b : Bool)
    → (if b then 0 else count_of_peer p (s ∷ ss))
    ≡ (if b then 0 else one_if (s.peer == p)) + (if b then 0 else count_of_peer p ss)
one_peer_more old new s ss p true = refl
one_peer_more old new s ss p false = counted_first (λ x. x.peer == p) s ss

one_more : (old new : List PeerView) (s : Session) (ss : List Session) (ps : List ℕ) →
    gone_with old new (s ∷ ss) ps ≡ times old new s.peer ps + gone_with old new ss ps
one_more old new s ss [] = refl
one_more old new s ss (p ∷ ps) =
    omega (arith, one_peer_more old new s ss p (of_peer keeps_sessions old new p), one_more old new s ss ps)

none_with : (old new : List PeerView) (ps : List ℕ) → gone_with old new [] ps ≡ 0
none_with old new [] = refl
none_with old new (p ∷ ps) =
    elim (cases_Bool (of_peer keeps_sessions old new p)) [
      | inl y ↦ rw y (omega (arith, none_with old new ps))
      | inr n ↦ rw n (omega (arith, none_with old new ps))
    ]

-- ---- a peer whose table stays keeps its sessions

itself : (b : Bool) → (b || not b) ≡ true
itself true = refl
itself false = refl

kept_by : (p : PeerView) (o : Option PeerView) → option_map peer_part o ≡ Some (peer_part p) →
    option_map_or (keeps_sessions p) o false ≡ true
kept_by p None is = absurd (cc is)
kept_by p (Some q) is =
    let part : peer_part q ≡ peer_part p = ap (λ (o : Option PeerView). unwrap_or o (peer_part q)) is in
    let gone : q.gone ≡ p.gone = ap (λ (r : PeerView). r.gone) part in
    ap (λ (b : Bool). p.gone || not b) gone ∙ itself p.gone

kept_at : (old new : List PeerView) (peer : ℕ) (o : Option PeerView) → slice_get old peer ≡ o
    → slice_get (map peer_part new) peer ≡ slice_get (map peer_part old) peer
    → of_peer keeps_sessions old new peer ≡ true
kept_at old new peer None there part =
    ap
    (λ (o : Option PeerView). option_map_or (λ p. option_map_or (keeps_sessions p) (slice_get new peer) false) o true)
    there
kept_at old new peer (Some p) there part =
    let was : slice_get (map peer_part old) peer ≡ Some (peer_part p) =
    slice_get-map peer_part old peer ∙ ap (option_map peer_part) there in
    let is : option_map peer_part (slice_get new peer) ≡ Some (peer_part p) =
    sym (slice_get-map peer_part new peer) ∙ part ∙ was in
    ap
    (λ (o : Option PeerView). option_map_or (λ q. option_map_or (keeps_sessions q) (slice_get new peer) false) o true)
    there ∙ kept_by p (slice_get new peer) is

-- ---- each goes once, or stays

never : (old new : List PeerView) (peer : ℕ) → of_peer keeps_sessions old new peer ≡ true → (ps : List ℕ) →
    times old new peer ps ≡ 0
never old new peer stays [] = refl
never old new peer stays (p ∷ ps) =
    elim (cases_Bool (peer == p)) [
      | inl y ↦ (
          let is : peer ≡ p = grind (arith, nat_tests, y) in
          let kept = subst (λ (q : ℕ). of_peer keeps_sessions old new q ≡ true) is stays in
          rw kept (omega (arith, never old new peer stays ps)))
      | inr n ↦ (elim (cases_Bool (of_peer keeps_sessions old new p)) [
        | inl kept ↦ rw kept (omega (arith, never old new peer stays ps))
        | inr goes ↦ rw (goes, n) (omega (arith, never old new peer stays ps))
      ])
    ]

apart : (old new : List PeerView) (peer : ℕ) (ps : List ℕ) → AllByRecursion (λ m. peer < m) ps →
    times old new peer ps ≡ 0
apart old new peer [] h = refl
apart old new peer (p ∷ ps) h =
    let less = h.0 in
    let other = differs peer p (λ is. absurd (omega (arith, less, is))) in
    elim (cases_Bool (of_peer keeps_sessions old new p)) [
      | inl kept ↦ rw kept (omega (arith, apart old new peer ps h.1))
      | inr goes ↦ rw (goes, other) (omega (arith, apart old new peer ps h.1))
    ]

less_than : (p : ℕ) (ps : List ℕ) (peer : ℕ) → AllByRecursion (λ m. p < m) ps → IsIn peer ps → p < peer
less_than p [] peer h at = absurd at
less_than p (q ∷ ps) peer h (inl is) = omega (arith, h.0, is)
less_than p (q ∷ ps) peer h (inr at) = less_than p ps peer h.1 at

once : (old new : List PeerView) (peer : ℕ) → of_peer keeps_sessions old new peer ≡ false
    → (ps : List ℕ) → AreRising ps → IsIn peer ps → times old new peer ps ≡ 1
once old new peer goes [] rising at = absurd at
once old new peer goes (p ∷ ps) rising (inl is) =
    let here = subst (λ (q : ℕ). of_peer keeps_sessions old new q ≡ false) (sym is) goes in
    let own = same peer p (sym is) in
    let behind = subst (λ (q : ℕ). AllByRecursion (λ m. q < m) ps) is rising.0 in
    rw (here, own) (omega (arith, apart old new peer ps behind))
once old new peer goes (p ∷ ps) rising (inr at) =
    let less = less_than p ps peer rising.0 at in
    let other = differs peer p (λ is. absurd (omega (arith, less, is))) in
    let rest = once old new peer goes ps rising.1 at in
    elim (cases_Bool (of_peer keeps_sessions old new p)) [
      | inl kept ↦ rw kept (omega (arith, rest))
      | inr gone ↦ rw (gone, other) (omega (arith, rest))
    ]

was_there : (old new : List PeerView) (peer : ℕ) (o : Option PeerView) → slice_get old peer ≡ o
    → of_peer keeps_sessions old new peer ≡ false → peer < length old
was_there old new peer None there goes =
    let stays : of_peer keeps_sessions old new peer ≡ true =
    ap
    (λ (o : Option PeerView). option_map_or (λ p. option_map_or (keeps_sessions p) (slice_get new peer) false) o true)
    there in
    absurd (let k : true ≡ false = sym stays ∙ goes in cc)
was_there old new peer (Some p) there goes = slice_get_within old peer p there

as_often : (old new : List PeerView) (changed : List ℕ) → AreChanged old new changed → (peer : ℕ) →
    times old new peer changed ≡ one_if (not (of_peer keeps_sessions old new peer))
as_often old new changed h peer =
    elim (cases_Bool (of_peer keeps_sessions old new peer)) [
      | inl stays ↦ rw stays (never old new peer stays changed)
      | inr goes ↦ (
          let within = was_there old new peer (slice_get old peer) refl goes in
          let often : times old new peer changed ≡ 1 = elim (h.told peer within)
          as (λ _. times old new peer changed ≡ 1) [
            | inl at ↦ once old new peer goes changed h.rising at
            | inr part ↦ absurd (let k : true ≡ false =
                sym (kept_at old new peer (slice_get old peer) refl (kept_part old new peer part)) ∙ goes in cc)
          ] in
          rw goes often)
    ]

pub gone_are : (old new : List PeerView) (changed : List ℕ) → AreChanged old new changed → (ss : List Session) →
    gone_with old new ss changed ≡ counted (is_of_gone old new) ss
gone_are old new changed h [] = none_with old new changed
gone_are old new changed h (s ∷ ss) =
    omega (
      arith,
      one_more old new s ss changed,
      as_often old new changed h s.peer,
      counted_first (is_of_gone old new) s ss,
      gone_are old new changed h ss,
    )

-- ---- so are they counted

stay_or_go : (b : Bool) → one_if b + one_if (not b) ≡ 1
stay_or_go true = refl
stay_or_go false = refl

all_are : (old new : List PeerView) (ss : List Session) →
    counted (λ s. of_peer keeps_sessions old new s.peer) ss + counted (is_of_gone old new) ss ≡ length ss
all_are old new [] = refl
all_are old new (s ∷ ss) =
    omega (
      arith,
      counted_first (λ x. of_peer keeps_sessions old new x.peer) s ss,
      counted_first (is_of_gone old new) s ss,
      stay_or_go (of_peer keeps_sessions old new s.peer),
      all_are old new ss,
    )

newest_by : (b : Bool) (all gone most : ℕ) (left : List Session) → length left + gone ≡ all
    → (if b then gone + (all - gone - most) else gone)
    ≡ all - length (if b then drop (length left - most) left else left)
newest_by true all gone most left is = omega (arith, is, length-drop (length left - most) left)
newest_by false all gone most left is = omega (arith, is)

told_by : (b : Bool) (all lost : ℕ) (left : List Session) → lost ≡ all - length left
    → (if b then lost else all) ≡ all - length (if b then left else [])
told_by true all lost left is = is
told_by false all lost left is = omega arith

pub sessions_go : (old new : RealmConfig) (ss : List Session) →
    sessions_lost old new ss ≡ length ss - length (sessions_then old new ss)
sessions_go old new ss =
    let left = filter (λ s. of_peer keeps_sessions old.peers new.peers s.peer) ss in
    let gone = counted (is_of_gone old.peers new.peers) ss in
    told_by (same_sessions old.realm new.realm) (length ss) (newest_lost old new (length ss) gone)
    (newest old new left)
    (newest_by (nat_lt new.realm.max_sessions old.realm.max_sessions) (length ss) gone new.realm.max_sessions left
    (all_are old.peers new.peers ss))

pub few_gone : (old new : List PeerView) (ss : List Session) → counted (is_of_gone old new) ss ≤ length ss
few_gone old new ss = few_count (is_of_gone old new) ss

-- ---- where they are told otherwise, or fewer are kept

-- To which link a new request goes: what the code finds by the lanes is what the definition finds by the entries.
use Rattle.std.proofs.Common.{◌≡◌, ℕ, ◌<◌, ◌&&◌, Bool, true, false, not, List, [], ◌∷◌, ◌++◌, Option, Some, None, is_some, option_map, refl, ap, sym, ◌∙◌}
use Rattle.std.specs.Prelude.{if◌then◌else◌}
use Rattle.std.specs.List.{AllByRecursion, filter, find}
use Rattle.std.specs.Option.{option_and_then, option_or}
use Rattle.roam_conf.specs.declared.place.Link.{Link}
use Rattle.roam_pending.specs.PlainEntry.{PlainEntry, PlainRequest, has_ticket, same_link}
use Rattle.roam_pending.specs.EntryList.{IsEntryList, besides, find_ticket, without}
use Rattle.roam_pending.proofs.OrderLemmas.{list-without}
use Rattle.roam_pending.proofs.TestLemmas.{all-find, all-weaker}
use Rattle.roam_realm.specs.Conversing.{asked_state, bound_link, bound_links, bound_target, new_target, same_end, untried}
use Rattle.roam_rules.specs.Private.NewEntry.{bound_way, freed_link, way_link}
use Rattle.roam_realm.specs.RealmConfig.{RealmConfig, IsLink}
use Rattle.roam_realm.specs.RealmState.{RealmState, Target, chosen_target, first_target, next_toward, this_or}
use Rattle.roam_realm.specs.Rests.{has_moment}
use Rattle.roam_rules.specs.Replacing.{CountsAsReplaced, replaced_ticket}
use Rattle.roam_realm.specs.Sound.{IsEntry, IsSound, cursors_of, is_open, is_wanted, standing_place, state_of}
use Rattle.roam_rules.specs.declared.rules.replaced.Replaced.{Replaced}
use Rattle.roam_realm.specs.declared.link_rests.Wanted.TheVariants as wanted
use Rattle.roam_realm.specs.declared.realm_numbers.RealmNumbers.{RealmNumbers}
use Rattle.roam_realm.specs.declared.rest.Rest.{Rest}
use Rattle.roam_realm.proofs.LaneLemmas.{chosen-by, either, first-next, link-or, next-tells, open-freed, or-same, placed-octet, placeless-done, target-among, target-next, tells-replaced}

-- ---- which links have a free Identifier

-- a link has one beside an entry that counts as gone, just where the code finds it free
open-at : {A : Type 0} (c : RealmConfig) (es : List PlainEntry) (n : RealmNumbers A) (t : ℕ) (e : PlainEntry)
    (place : Option (Link × ℕ)) → IsSound c es n → IsEntryList es → find_ticket t es ≡ Some e
    → standing_place e.standing ≡ place → (k : Link) → IsLink c k
    → is_some (next_toward c (cursors_of n.lanes.items) (without t es) k)
    ≡ is_open c n.lanes.items (option_map (λ p. p.0) place) k
open-at c es n t e None sound list at is k link =
    let replaced = tells-replaced c es n.lanes.items t e sound.lanes_tell at (placeless-done e.standing is) in
    ap is_some (next-tells c (without t es) n.lanes.items k
    (list-without t es list) replaced link)
open-at c es n t e (Some (l, id)) sound list at is k link =
    let entry = all-find (IsEntry c n.ticket) (has_ticket t) es e at sound.each in
    let octet : id < 256 = placed-octet c e.request e.standing l id is entry.standing in
    open-freed c es n.lanes.items t e l id k list sound.lanes_tell link at is octet

opens : {A : Type 0} (c : RealmConfig) (es : List PlainEntry) (n : RealmNumbers A) (o : Option Replaced)
    → IsSound c es n → IsEntryList es → CountsAsReplaced o es → (k : Link) → IsLink c k
    → is_some (next_toward c (cursors_of n.lanes.items) (besides (replaced_ticket o) es) k)
    ≡ is_open c n.lanes.items (freed_link o) k
opens c es n None sound list replaced k link = ap is_some (next-tells c es n.lanes.items k list sound.lanes_tell link)
opens c es n (Some g) sound list replaced k link =
    open-at c es n g.ticket replaced.0 g.waits_at sound list replaced.1.found (sym replaced.1.place) k link

-- ---- the link of the target

-- the first target among two lists is that among the first one, or among the second
this-append : (l : Link) (o : Option ℕ) (a b : Option Target)
    → this_or l o (option_or a b) ≡ option_or (this_or l o a) b
this-append l None a b = refl
this-append l (Some id) a b = refl

first-append : (c : RealmConfig) (cursors : List ℕ) (es : List PlainEntry) (ls ks : List Link)
    → first_target c cursors es (ls ++ ks)
    ≡ option_or (first_target c cursors es ls) (first_target c cursors es ks)
first-append c cursors es [] ks = refl
first-append c cursors es (l ∷ ls) ks =
    ap (this_or l (next_toward c cursors es l)) (first-append c cursors es ls ks)
    ∙ this-append l (next_toward c cursors es l) (first_target c cursors es ls) (first_target c cursors es ks)

bound-by : (c : RealmConfig) (rests : List Rest) (cursors : List ℕ) (es : List PlainEntry) (is_free : Link → Bool)
    (bound : Option Link) (links : List Link)
    → AllByRecursion (λ l. is_some (next_toward c cursors es l) ≡ is_free l) links
    → option_map (λ t. t.link) (first_target c cursors es (bound_links bound links))
    ≡ option_and_then (λ k. option_or (find (λ l. is_wanted c rests (wanted.This k) l && is_free l) links)
    (find (λ l. is_wanted c rests (wanted.SameEnd k) l && is_free l) links)) bound
bound-by c rests cursors es is_free None links h = refl
bound-by c rests cursors es is_free (Some k) links h =
    let this = filter (same_link k) links in
    let others = filter (same_end k) links in
    ap (option_map (λ (t : Target). t.link)) (first-append c cursors es this others)
    ∙ link-or (first_target c cursors es this) (first_target c cursors es others)
    ∙ or-same _ _ _ _ (target-among c cursors es is_free (same_link k) links h)
    (target-among c cursors es is_free (same_end k) links h)

untried-by : (c : RealmConfig) (rests : List Rest) (cursors : List ℕ) (es : List PlainEntry) (is_free : Link → Bool)
    (asked : Bool) (links : List Link)
    → AllByRecursion (λ l. is_some (next_toward c cursors es l) ≡ is_free l) links
    → option_map (λ t. t.link) (first_target c cursors es
    (if asked then filter (λ l. not (has_moment c rests l)) links else []))
    ≡ (if asked then find (λ l. is_wanted c rests wanted.Untried l && is_free l) links else None)
untried-by c rests cursors es is_free true links h =
    target-among c cursors es is_free (λ l. not (has_moment c rests l)) links h
untried-by c rests cursors es is_free false links h = refl

-- the target of a new request is at the link that the code chooses
pub way-is : {A : Type 0} (c : RealmConfig) (now : ℕ) (es : List PlainEntry) (n : RealmNumbers A)
    (o : Option Replaced) (q : PlainRequest) (links : List Link) → IsSound c es n → IsEntryList es
    → CountsAsReplaced o es → AllByRecursion (IsLink c) links
    → option_map (λ t. t.link) (new_target c now (state_of es n) (besides (replaced_ticket o) es) q links)
    ≡ way_link c now n.rests.items n.lanes.items (freed_link o) q es links
way-is c now es n o q links sound list replaced are =
    let cursors = cursors_of n.lanes.items in
    let mid = besides (replaced_ticket o) es in
    let is_free = is_open c n.lanes.items (freed_link o) in
    let at : (k : Link) → IsLink c k → is_some (next_toward c cursors mid k) ≡ is_free k =
    opens c es n o sound list replaced in
    let all = all-weaker (IsLink c) (λ l. is_some (next_toward c cursors mid l) ≡ is_free l) links at are in
    let first = bound-by c n.rests.items cursors mid is_free (bound_link c q es) links all in
    let second = untried-by c n.rests.items cursors mid is_free (is_some (asked_state c q)) links all in
    let third = chosen-by c now n.rests.items cursors mid is_free links all in
    link-or (first_target c cursors mid (bound_links (bound_link c q es) links))
    (option_or (first_target c cursors mid (untried c n.rests.items q links))
    (chosen_target c now n.rests.items cursors mid links))
    ∙ or-same _ _ _ _ first
    (link-or (first_target c cursors mid (untried c n.rests.items q links))
    (chosen_target c now n.rests.items cursors mid links)
    ∙ or-same _ _ _ _ second third)

mapped-some : (o : Option Target) → is_some (option_map (λ (t : Target). t.link) o) ≡ is_some o
mapped-some None = refl
mapped-some (Some t) = refl

-- and it is bound there just where the code finds it bound
pub bound-is : {A : Type 0} (c : RealmConfig) (es : List PlainEntry) (n : RealmNumbers A) (o : Option Replaced)
    (q : PlainRequest) (links : List Link) → IsSound c es n → IsEntryList es → CountsAsReplaced o es
    → AllByRecursion (IsLink c) links
    → is_some (bound_target c (state_of es n) (besides (replaced_ticket o) es) q links)
    ≡ is_some (bound_way c n.rests.items n.lanes.items (freed_link o) q es links)
bound-is c es n o q links sound list replaced are =
    let cursors = cursors_of n.lanes.items in
    let mid = besides (replaced_ticket o) es in
    let is_free = is_open c n.lanes.items (freed_link o) in
    let all = all-weaker (IsLink c) (λ l. is_some (next_toward c cursors mid l) ≡ is_free l) links
    (opens c es n o sound list replaced) are in
    sym (mapped-some (first_target c cursors mid (bound_links (bound_link c q es) links)))
    ∙ ap is_some (bound-by c n.rests.items cursors mid is_free (bound_link c q es) links all)

-- ---- the target's Identifier

-- it is the next toward its link
pub new-next : (c : RealmConfig) (now : ℕ) (s : RealmState) (es : List PlainEntry)
    (q : PlainRequest) (links : List Link) (target : Target) → new_target c now s es q links ≡ Some target
    → next_toward c s.cursors es target.link ≡ Some target.id
new-next c now s es q links target at =
    let first = first_target c s.cursors es (bound_links (bound_link c q s.entries) links) in
    let second = first_target c s.cursors es (untried c s.rests q links) in
    let third = chosen_target c now s.rests s.cursors es links in
    either (λ (t : Target). next_toward c s.cursors es t.link ≡ Some t.id) first (option_or second third) target
    (first-next c s.cursors es (bound_links (bound_link c q s.entries) links) target)
    (either (λ (t : Target). next_toward c s.cursors es t.link ≡ Some t.id) second third target
    (first-next c s.cursors es (untried c s.rests q links) target)
    (target-next c now s.rests s.cursors es links target)) at

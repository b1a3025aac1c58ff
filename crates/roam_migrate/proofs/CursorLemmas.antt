-- A change that doesn't touch a realm leaves its cursors, with 0 for each link to a further peer.
use Rattle.std.proofs.Common.{◌≡◌, inl, inr, ℕ, ◌-◌, ◌<◌, List, ◌++◌, length, replicate, Some, get_or, option_map, refl, sym, ap, ◌∙◌, arith, slice_index}
use Rattle.std.proofs.lemmas.Bool.{cases_lt}
use Rattle.std.proofs.lemmas.List.{get_or-append_right, get_or-replicate, get_or_append_left, get_or_past, length-append, length-replicate}
use Rattle.roam_conf.specs.Config.{ServerView}
use Rattle.roam_conf.specs.Lookup.{out_of}
use Rattle.roam_conf.specs.declared.place.Link.{Link}
use Rattle.roam_conf.specs.declared.place.Link.TheVariants as link
use Rattle.roam_reload.specs.Kept.{server_then}
use Rattle.roam_reload.proofs.KeptLemmas.{coa_stays, server_stays}
use Rattle.roam_realm.specs.RealmConfig.{IsLink, RealmConfig, link_count, link_place}
use Rattle.roam_migrate.specs.Reload.{Carries, cursor_then, cursors_then, link_before, links_of}
use Rattle.roam_migrate.proofs.LinkListLemmas.{by_links, links_number, links_stand}
use Rattle.roam_migrate.proofs.ReloadLemmas.{grows, place_stays}
use Rattle.roam_migrate.proofs.UntouchedLemmas.{out_stays, servers_are}

-- ---- each link was there, and is the same

server_was : (old new : RealmConfig) → Carries old new → (s : ℕ)
    → server_then new.realm.servers old.realm.servers s ≡ Some s
server_was old new k s =
    ap (λ (ss : List ServerView). server_then ss old.realm.servers s) (servers_are old new k)
    ∙ server_stays old.realm.servers s

link_was : (old new : RealmConfig) → Carries old new → (l : Link) → link_before old new l ≡ Some l
link_was old new k (link.Auth s out) = ap (option_map (λ t. link.Auth t out)) (server_was old new k s)
link_was old new k (link.Acct s out) = ap (option_map (λ t. link.Acct t out)) (server_was old new k s)
link_was old new k (link.Coa p out) = rw (coa_stays old.peers new.peers k.peers p) refl

cursor_is : (old new : RealmConfig) → Carries old new → (cursors : List ℕ) (l : Link)
    → cursor_then old new cursors l ≡ slice_index cursors (link_place old l)
cursor_is old new k cursors l = rw (out_stays old new k (out_of l), link_was old new k l) refl

-- zeros behind a list are what is read past it
padded : (xs : List ℕ) (count i : ℕ) → i < length (xs ++ replicate count 0)
    → get_or (xs ++ replicate count 0) i 0 ≡ slice_index xs i
padded xs count i below =
    elim (cases_lt i (length xs)) [
      | inl inside ↦ get_or_append_left xs (replicate count 0) 0 i inside
      | inr past ↦ (
          let size = length-append xs (replicate {A = ℕ} count 0) in
          let zeros = length-replicate {A = ℕ} count 0 in
          let within : i - length xs < count = omega (arith, below, size, zeros, past) in
          get_or-append_right xs (replicate count 0) (length xs) i 0 refl past
          ∙ get_or-replicate count (i - length xs) 0 0 within ∙ sym (get_or_past xs i 0 past))
    ]

-- the cursors of all links of the new part
pub cursors_are : (old new : RealmConfig) → Carries old new → (cursors : List ℕ)
    → length cursors ≡ link_count old
    → cursors_then old new cursors ≡ cursors ++ replicate (link_count new - link_count old) 0
cursors_are old new k cursors count =
    let more = link_count new - link_count old in
    let size = length-append cursors (replicate {A = ℕ} more 0) in
    let zeros = length-replicate {A = ℕ} more 0 in
    let number : length (cursors ++ replicate more 0) ≡ length (links_of new) =
    omega (arith, size, zeros, count, grows old new k, links_number new) in
    sym (by_links (IsLink new) (link_place new) (cursor_then old new cursors) 0 (cursors ++ replicate more 0)
    (links_of new) (links_stand new) number (λ l is below.
    padded cursors more (link_place new l) below
    ∙ ap (slice_index cursors) (place_stays old new k l) ∙ sym (cursor_is old new k cursors l)))

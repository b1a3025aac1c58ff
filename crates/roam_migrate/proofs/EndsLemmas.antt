-- The ends of an entry then, by its sender and by how it stands.
use Rattle.std.proofs.Common.{◌≡◌, ◌↔◌, inl, inr, ℕ, ◌<◌, ◌&&◌, Bool, true, false, not, List, length, Option, Some, None, is_some, option_map, refl, sym, ap, ◌∙◌, slice_get, if◌then◌else◌}
use Rattle.std.specs.Option.{option_and_then}
use Rattle.std.proofs.lemmas.Bool.{cases_Bool}
use Rattle.roam_wire.specs.Reading.{packet_of}
use Rattle.roam_conf.specs.declared.place.Link.{Link}
use Rattle.roam_forward.specs.Shaped.{CanBeShaped}
use Rattle.roam_pending.specs.declared.key.Requester.{Requester}
use Rattle.roam_pending.specs.declared.key.Requester.TheVariants as requester
use Rattle.roam_pending.specs.PlainEntry.{PlainEntry, PlainRequest, PlainStanding, waiting, done}
use Rattle.roam_pending.specs.Realms.{with_ends, with_home}
use Rattle.roam_reload.specs.Kept.{home_then, keeps_request}
use Rattle.roam_realm.specs.RealmConfig.{RealmConfig}
use Rattle.roam_realm.specs.Shapings.{shaping_from}
use Rattle.roam_realm.specs.Sound.{IsOfPeer}
use Rattle.roam_migrate.specs.Reload.{entry_of, entry_then, fits, outgrows, request_from, request_then, requester_then, standing_then, way_then}
use Rattle.roam_migrate.proofs.EntryGoesLemmas.{does_fit, has_size, peer_there}

-- ---- its sender

-- what the request is then, by its sender
request_by : (old new : RealmConfig) (q : PlainRequest) (r : Requester) → q.requester ≡ r
    → request_then old new q
    ≡ (if outgrows old new q r then None else option_map (request_from q) (requester_then old new q.key r))
request_by old new q r is =
    ap (λ (s : Requester). if outgrows old new q s then None
    else option_map (request_from q) (requester_then old new q.key s)) is

fits_still : (a b c : Bool) → c ≡ true → (a && b && not c) ≡ false
fits_still true true c h = rw h refl
fits_still true false c h = refl
fits_still false b c h = refl

pub peer_on : (old new : RealmConfig) (q : PlainRequest) (p : ℕ) → q.requester ≡ requester.Peer p
    → keeps_request old.peers new.peers p q.key.from.ip ≡ true → fits new p q ≡ true
    → request_then old new q ≡ Some (request_from q (with_home None q.requester))
peer_on old new q p is keeps fit =
    let still : outgrows old new q (requester.Peer p) ≡ false =
    fits_still (is_some (slice_get old.peers p)) (fits old p q) (fits new p q) fit in
    request_by old new q (requester.Peer p) is ∙ rw (still, keeps, is) refl

either_way : (b : Bool) (o : Option PlainRequest) → (if b then o else o) ≡ o
either_way true o = refl
either_way false o = refl

pub peer_off : (old new : RealmConfig) (q : PlainRequest) (p : ℕ) → q.requester ≡ requester.Peer p
    → keeps_request old.peers new.peers p q.key.from.ip ≡ false → request_then old new q ≡ None
peer_off old new q p is keeps =
    request_by old new q (requester.Peer p) is
    ∙ rw keeps (either_way (outgrows old new q (requester.Peer p)) None)

pub peer_big : (old new : RealmConfig) (q : PlainRequest) (p : ℕ) → q.requester ≡ requester.Peer p
    → p < length old.peers → IsOfPeer old p (packet_of q.octets) → fits new p q ≡ false
    → request_then old new q ≡ None
peer_big old new q p is below well big =
    let there = peer_there old.peers p below in
    let fit = does_fit old p q well.can_be_shaped in
    request_by old new q (requester.Peer p) is ∙ rw (there, fit, big) refl

pub home_on : (old new : RealmConfig) (q : PlainRequest) (home h : ℕ) → q.requester ≡ requester.Home home
    → home_then old.realm new.realm q.key.from.ip home ≡ Some h
    → request_then old new q ≡ Some (request_from q (with_home (Some h) q.requester))
home_on old new q home h is then' = request_by old new q (requester.Home home) is ∙ rw (then', is) refl

pub home_off : (old new : RealmConfig) (q : PlainRequest) (home : ℕ) → q.requester ≡ requester.Home home
    → home_then old.realm new.realm q.key.from.ip home ≡ None → request_then old new q ≡ None
home_off old new q home is then' = request_by old new q (requester.Home home) is ∙ rw then' refl

-- ---- how it stands

no_request : (ticket : ℕ) (s : Option PlainStanding) → entry_of ticket None s ≡ None
no_request ticket None = refl
no_request ticket (Some s) = refl

pub goes_by_request : (old new : RealmConfig) (e : PlainEntry) → request_then old new e.request ≡ None
    → entry_then old new e ≡ None
goes_by_request old new e is =
    ap (λ (o : Option PlainRequest). entry_of e.ticket o (standing_then old new e.standing)) is
    ∙ no_request e.ticket (standing_then old new e.standing)

entry_by : (old new : RealmConfig) (e : PlainEntry) (q : PlainRequest) (s : Option PlainStanding)
    → request_then old new e.request ≡ Some q → standing_then old new e.standing ≡ s
    → entry_then old new e ≡ entry_of e.ticket (Some q) s
entry_by old new e q s asked stood =
    ap (λ (o : Option PlainRequest). entry_of e.ticket o (standing_then old new e.standing)) asked
    ∙ ap (entry_of e.ticket (Some q)) stood

module _ (old new : RealmConfig) (e : PlainEntry) (home : Option ℕ)
    (asked : request_then old new e.request ≡ Some (request_from e.request
    (with_home home e.request.requester))) where
  waiting_then : (l : Link) (id : ℕ) (forwarded : List ℕ) (sends_left deadline signs : ℕ) (o : Option Link)
      → e.standing ≡ waiting l id forwarded sends_left deadline signs → way_then old new l ≡ o
      → standing_then old new e.standing ≡ option_map (λ m. waiting m id forwarded sends_left deadline signs) o
  waiting_then l id forwarded sends_left deadline signs o is at =
      ap (standing_then old new) is
      ∙ ap (option_map (λ (m : Link). waiting m id forwarded sends_left deadline signs)) at

  pub waits_on : (l m : Link) (id : ℕ) (forwarded : List ℕ) (sends_left deadline signs : ℕ)
      → e.standing ≡ waiting l id forwarded sends_left deadline signs → way_then old new l ≡ Some m
      → entry_then old new e ≡ Some (with_ends home (Some m) e)
  waits_on l m id forwarded sends_left deadline signs is at =
      entry_by old new e (request_from e.request (with_home home e.request.requester))
      (Some (waiting m id forwarded sends_left deadline signs)) asked
      (waiting_then l id forwarded sends_left deadline signs (Some m) is at)
      ∙ rw is refl

  pub waits_off : (l : Link) (id : ℕ) (forwarded : List ℕ) (sends_left deadline signs : ℕ)
      → e.standing ≡ waiting l id forwarded sends_left deadline signs → way_then old new l ≡ None
      → entry_then old new e ≡ None
  waits_off l id forwarded sends_left deadline signs is at =
      entry_by old new e (request_from e.request (with_home home e.request.requester)) None asked
      (waiting_then l id forwarded sends_left deadline signs None is at)

  held_by : (from link : Option Link) → link ≡ option_and_then (way_then old new) from
      → option_and_then (way_then old new) from ≡ option_and_then (λ (l : Link). link) from
  held_by None link is = refl
  held_by (Some l) link is = sym is

  pub held_on : (reply : List ℕ) (deadline : ℕ) (from link : Option Link) → e.standing ≡ done reply deadline from
      → link ≡ option_and_then (way_then old new) from → entry_then old new e ≡ Some (with_ends home link e)
  held_on reply deadline from link is at =
      entry_by old new e (request_from e.request (with_home home e.request.requester))
      (Some (done reply deadline (option_and_then (way_then old new) from))) asked (ap (standing_then old new) is)
      ∙ rw (is, held_by from link at) refl

-- ---- whether it fits

pub fit_test : (c new : RealmConfig) (p : ℕ) (q : PlainRequest) (b : Bool) → IsOfPeer c p (packet_of q.octets)
    → (b ≡ true ↔ CanBeShaped (shaping_from new p) (packet_of q.octets)) → b ≡ fits new p q
fit_test c new p q true well test = sym (does_fit new p q (test.0 refl))
fit_test c new p q false well test =
    elim (cases_Bool (fits new p q)) as (λ _. false ≡ fits new p q) [
      | inl y ↦ (
          let can : CanBeShaped (shaping_from new p) (packet_of q.octets) = record {
            message_authenticator = well.can_be_shaped.message_authenticator;
            passwords = well.can_be_shaped.passwords;
            size = has_size new p q y;
          } in
          test.1 can ∙ sym y)
      | inr n ↦ sym n
    ]

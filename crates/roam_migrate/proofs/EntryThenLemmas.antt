-- What an entry is then, if it stays: one of its ticket, its deadline and its request, well under the new part.
use Rattle.std.proofs.Common.{◌≡◌, ℕ, zero, suc, ◌+◌, ◌-◌, ◌<◌, ◌≤◌, ◌&&◌, Bool, true, false, List, [], ◌∷◌, length, not, nat_lt, Option, Some, None, is_some, option_map, refl, sym, ap, subst, ◌∙◌, arith, inl, inr, slice_get, if◌then◌else◌}
use Rattle.std.specs.Option.{option_and_then, option_or}
use Rattle.std.specs.List.{AllByRecursion, cons_option, filter_map, position_from}
use Rattle.std.specs.Str.{bytes_eq}
use Rattle.std.proofs.lemmas.Bool.{cases_Bool}
use Rattle.std.proofs.lemmas.Bool.Decides.{nat_tests}
use Rattle.std.proofs.lemmas.Option.{same_Some, slice_get_within}
use Rattle.roam_wire.specs.Reading.{packet_of}
use Rattle.roam_wire.specs.declared.packet_size.TheConstants.{MAX_PACKET_LENGTH}
use Rattle.roam_conf.specs.Config.{CoaClientView, PeerView, RealmView, ServerView}
use Rattle.roam_conf.specs.Lookup.{client_with_ip, home_with_ip, homes, server_with_ip}
use Rattle.roam_conf.specs.Secrets.{home_secret}
use Rattle.roam_address.specs.declared.address.Address.{Address}
use Rattle.roam_conf.specs.declared.place.Link.{Link}
use Rattle.roam_forward.specs.Forwarded.{forwarded_length}
use Rattle.roam_forward.specs.Shaped.{CanBeShaped, shaped}
use Rattle.roam_pending.specs.declared.due.Due.{Due}
use Rattle.roam_pending.specs.declared.key.Requester.{Requester}
use Rattle.roam_pending.specs.declared.key.Requester.TheVariants as requester
use Rattle.roam_pending.specs.DueOrder.{due_at}
use Rattle.roam_pending.specs.PlainEntry.{PlainEntry, PlainRequest, PlainStanding, deadline_of, waiting, done}
use Rattle.roam_reload.specs.Kept.{Source, both_or_none, client_source, closes_reverse, home_then, keeps_request, keeps_secret, of_peer, same_source, server_source, source}
use Rattle.roam_reload.proofs.KeptLemmas.{secret_kept}
use Rattle.roam_realm.specs.RealmConfig.{RealmConfig, IsRequester}
use Rattle.roam_realm.specs.Shapings.{shaping_from}
use Rattle.roam_realm.specs.Sound.{CanGo, IsEntry, IsOfPeer, IsRequest, IsWaiting, StandsWell}
use Rattle.roam_migrate.specs.Carrying.{HaveDistinctServers}
use Rattle.roam_migrate.specs.Reload.{entry_of, entry_then, fits, outgrows, request_from, request_then, requester_then, standing_then, way_then}
use Rattle.roam_migrate.proofs.LinkThenLemmas.{way_back}
use Rattle.roam_migrate.proofs.ServerThenLemmas.{found_at}

-- ---- its parts

pub record HasParts (old new : RealmConfig) (before after : PlainEntry) : Type 0 where
  pub ticket : after.ticket ≡ before.ticket
  pub request : request_then old new before.request ≡ Some after.request
  pub standing : standing_then old new before.standing ≡ Some after.standing

parts_by : (old new : RealmConfig) (before after : PlainEntry) (q : Option PlainRequest) (s : Option PlainStanding)
    → request_then old new before.request ≡ q → standing_then old new before.standing ≡ s
    → entry_of before.ticket q s ≡ Some after → HasParts old new before after
parts_by old new before after None None asked stood is = absurd (cc is)
parts_by old new before after None (Some s) asked stood is = absurd (cc is)
parts_by old new before after (Some q) None asked stood is = absurd (cc is)
parts_by old new before after (Some q) (Some s) asked stood is =
    let one : PlainEntry = record { request = q; ticket = before.ticket; standing = s } in
    subst (HasParts old new before) (same_Some one after is) (record {
      ticket = refl;
      request = asked;
      standing =
          stood;
    })

pub entry_parts : (old new : RealmConfig) (before after : PlainEntry) → entry_then old new before ≡ Some after
    → HasParts old new before after
entry_parts old new before after is =
    parts_by old new before after (request_then old new before.request) (standing_then old new before.standing)
    refl refl is

-- ---- its deadline
waiting_until : (o : Option Link) (id : ℕ) (forwarded : List ℕ) (sends_left deadline signs : ℕ) (s : PlainStanding)
    → option_map (λ m. waiting m id forwarded sends_left deadline signs) o ≡ Some s → deadline_of s ≡ deadline
waiting_until None id forwarded sends_left deadline signs s is = absurd (cc is)
waiting_until (Some m) id forwarded sends_left deadline signs s is =
    ap deadline_of (sym (same_Some (waiting m id forwarded sends_left deadline signs) s is))

stands_until : (old new : RealmConfig) (before after : PlainStanding) → standing_then old new before ≡ Some after
    → deadline_of after ≡ deadline_of before
stands_until old new (waiting l id forwarded sends_left deadline signs) after is =
    waiting_until (way_then old new l) id forwarded sends_left deadline signs after is
stands_until old new (done reply deadline from) after is =
    ap deadline_of (sym (same_Some (done reply deadline (option_and_then (way_then old new) from)) after is))

pub due_stays : (old new : RealmConfig) (before after : PlainEntry) → entry_then old new before ≡ Some after
    → due_at after ≡ due_at before
due_stays old new before after is =
    let parts = entry_parts old new before after is in
    ap (λ (n : ℕ). let d : Due = record { deadline = n; ticket = after.ticket } in d)
    (stands_until old new before.standing after.standing parts.standing)
    ∙ ap (λ (n : ℕ). let d : Due = record { deadline = deadline_of before.standing; ticket = n } in d) parts.ticket

-- ---- its sender

pub record IsSender (old new : RealmConfig) (q p : PlainRequest) : Type 0 where
  pub sender : Requester
  pub then' : requester_then old new q.key q.requester ≡ Some sender
  pub fits : outgrows old new q q.requester ≡ false
  pub is : p ≡ request_from q sender

sender_by : (old new : RealmConfig) (q p : PlainRequest) (b : Bool) (o : Option Requester)
    → outgrows old new q q.requester ≡ b → requester_then old new q.key q.requester ≡ o
    → (if b then None else option_map (request_from q) o) ≡ Some p → IsSender old new q p
sender_by old new q p true o outgrown at is = absurd (cc is)
sender_by old new q p false None outgrown at is = absurd (cc is)
sender_by old new q p false (Some r) outgrown at is =
    record { sender = r; then' = at; fits = outgrown; is = sym (same_Some (request_from q r) p is) }

is_sender : (old new : RealmConfig) (q p : PlainRequest) → request_then old new q ≡ Some p → IsSender old new q p
is_sender old new q p is =
    sender_by old new q p (outgrows old new q q.requester) (requester_then old new q.key q.requester) refl refl is

pub peer_below : (old new : List PeerView) (p : ℕ) → of_peer keeps_secret old new p ≡ true → p < length old
    → p < length new
peer_below [] new p h below = omega (arith, below)
peer_below (a ∷ old) [] zero h below = absurd (cc h)
peer_below (a ∷ old) (b ∷ new) zero h below = omega arith
peer_below (a ∷ old) [] (suc p) h below =
    let rest = peer_below old [] p h (omega (arith, below)) in omega (arith, rest)
peer_below (a ∷ old) (b ∷ new) (suc p) h below =
    let rest = peer_below old new p h (omega (arith, below)) in omega (arith, rest)

-- a source that is there is one of so many
server_home : (r : RealmView) (home : ℕ) (s : Source) (o : Option ServerView) → slice_get r.servers home ≡ o
    → option_map server_source o ≡ Some s → home < homes r
server_home r home s None at is = absurd (cc is)
server_home r home s (Some x) at is = let k = slice_get_within r.servers home x at in omega (arith, k)

client_home : (r : RealmView) (home : ℕ) (s : Source) (o : Option CoaClientView)
    → slice_get r.coa_clients (home - length r.servers) ≡ o
    → option_map client_source o ≡ Some s → home < homes r
client_home r home s None at is = absurd (cc is)
client_home r home s (Some x) at is =
    let k = slice_get_within r.coa_clients (home - length r.servers) x at in omega (arith, k)

home_below : (r : RealmView) (home : ℕ) (s : Source) → source r home ≡ Some s → home < homes r
home_below r home s is =
    elim (cases_Bool (nat_lt home (length r.servers))) as (λ _. home < homes r) [
      | inl y ↦ server_home r home s (slice_get r.servers home) refl (rw y at is)
      | inr n ↦ client_home r home s (slice_get r.coa_clients (home - length r.servers)) refl (rw n at is)
    ]

there_by : {X : Type 0} (xs : List X) (i : ℕ) → i < length xs → (x : X) × (slice_get xs i ≡ Some x)
there_by [] i below = absurd (omega (arith, below))
there_by (x ∷ xs) zero below = (x, refl)
there_by (x ∷ xs) (suc i) below = there_by xs i (omega (arith, below))

home_there : (r : RealmView) (home : ℕ) → home < homes r → (s : Source) × (source r home ≡ Some s)
home_there r home below =
    elim (cases_Bool (nat_lt home (length r.servers))) as (λ _. (s : Source) × (source r home ≡ Some s)) [
      | inl y ↦ (
          let within : home < length r.servers = grind (arith, nat_tests, y) in
          let k = there_by r.servers home within in
          (server_source k.0, rw y (ap (option_map server_source) k.1)))
      | inr n ↦ (
          let past : length r.servers ≤ home = grind (arith, nat_tests, n) in
          let k = there_by r.coa_clients (home - length r.servers) (omega (arith, past, below)) in
          (client_source k.0, rw n (ap (option_map client_source) k.1)))
    ]

both_there : (s : Source) (o p : Option Source) → o ≡ Some s → both_or_none same_source o p ≡ true
    → (t : Source) × (p ≡ Some t)
both_there s None p is h = absurd (cc is)
both_there s (Some x) None is h = absurd (cc h)
both_there s (Some x) (Some t) is h = (t, refl)

-- who sends from an address is one of them
place_below : {X : Type 0} (test : X → Bool) (xs : List X) (i : ℕ) → position_from test 0 xs ≡ Some i → i < length xs
place_below test xs i is =
    let k = found_at test 0 xs i is in
    let within = slice_get_within xs k.0 k.1 k.2 in
    omega (arith, within, k.4)

server_below : (servers : List ServerView) (ip : Address) (i : ℕ) → server_with_ip servers ip ≡ Some i
    → i < length servers
unfolding server_with_ip
server_below servers ip i is = place_below _ servers i is

client_below : (clients : List CoaClientView) (ip : Address) (i : ℕ) → client_with_ip clients ip ≡ Some i
    → i < length clients
unfolding client_with_ip
client_below clients ip i is = place_below _ clients i is

found_below : (r : RealmView) (ip : Address) (i : ℕ) (server client : Option ℕ)
    → server_with_ip r.servers ip ≡ server → client_with_ip r.coa_clients ip ≡ client
    → option_or server (option_map (λ k. length r.servers + k) client) ≡ Some i → i < homes r
found_below r ip i (Some j) client at behind is =
    omega (arith, server_below r.servers ip j at, same_Some j i is)
found_below r ip i None (Some k) at behind is =
    omega (arith, client_below r.coa_clients ip k behind, same_Some (length r.servers + k) i is)
found_below r ip i None None at behind is = absurd (cc is)

at_by : (r : RealmView) (secret : List ℕ) (ip : Address) (i : ℕ) (o : Option ℕ) → home_with_ip r ip ≡ o
    → option_and_then (λ home. if bytes_eq (home_secret r home) secret then Some home else None) o ≡ Some i
    → i < homes r
at_by r secret ip i None at is = absurd (cc is)
at_by r secret ip i (Some home) at is =
    elim (cases_Bool (bytes_eq (home_secret r home) secret)) as (λ _. i < homes r) [
      | inl y ↦ (
          let k : Some home ≡ Some i = rw y at is in
          let same : home ≡ i = same_Some home i k in
          let server = server_with_ip r.servers ip in
          let below = found_below r ip home server (client_with_ip r.coa_clients ip) refl refl at in
          omega (arith, same, below))
      | inr n ↦ absurd (let k : None ≡ Some i = rw n at is in cc)
    ]

home_after : (old new : RealmView) (ip : Address) (home i : ℕ) → home_then old new ip home ≡ Some i → home < homes old
    → i < homes new
home_after old new ip home i is below =
    elim (cases_Bool (closes_reverse old new)) as (λ _. i < homes new) [
      | inl y ↦ absurd (let k : None ≡ Some i = rw y at is in cc)
      | inr n ↦ elim (cases_Bool (both_or_none same_source (source old home) (source new home)))
          as (λ _. i < homes new) [
            | inl same ↦ (
                let k : Some home ≡ Some i = rw (n, same) at is in
                let one : home ≡ i = same_Some home i k in
                let was = home_there old home below in
                let there = both_there was.0 (source old home) (source new home) was.1 same in
                let within = home_below new home there.0 there.1 in
                omega (arith, one, within))
            | inr other ↦ at_by new (home_secret old home) ip i (home_with_ip new ip) refl (rw (n, other) at is)
          ]
    ]

-- ---- it can go

three : (a b c : Bool) → a ≡ true → b ≡ true → (a && b && not c) ≡ false → c ≡ true
three true true true h k is = refl
three true true false h k is = absurd (cc is)
three true false c h k is = absurd (cc k)
three false b c h k is = absurd (cc h)

pub does_fit : (c : RealmConfig) (i : ℕ) (q : PlainRequest) → CanBeShaped (shaping_from c i) (packet_of q.octets)
    → fits c i q ≡ true
does_fit c i q h =
    let size = h.size in
    grind (arith, nat_tests, size)

pub has_size : (c : RealmConfig) (i : ℕ) (q : PlainRequest) → fits c i q ≡ true
    → forwarded_length (shaped (shaping_from c i) (packet_of q.octets)) ≤ MAX_PACKET_LENGTH
has_size c i q h = grind (arith, nat_tests, h)

pub peer_there : (old : List PeerView) (i : ℕ) → i < length old → is_some (slice_get old i) ≡ true
peer_there old i below = let k = there_by old i below in rw k.1 refl

peer_goes : (old new : RealmConfig) (i : ℕ) (q : PlainRequest) → i < length old.peers
    → IsOfPeer old i (packet_of q.octets) → outgrows old new q (requester.Peer i) ≡ false
    → IsOfPeer new i (packet_of q.octets)
peer_goes old new i q below h out = record {
  code = h.code;
  can_be_shaped = record {
    message_authenticator = h.can_be_shaped.message_authenticator;
    passwords = h.can_be_shaped.passwords;
    size = has_size new i q
        (three (is_some (slice_get old.peers i)) (fits old i q) (fits new i q) (peer_there old.peers i below)
        (does_fit old i q h.can_be_shaped) out);
  };
}

-- who sends it then is one who may, and it can go
pub record GoesOn (c : RealmConfig) (q : PlainRequest) (r : Requester) : Type 0 where
  pub sender : IsRequester c r
  pub can_go : CanGo c r (packet_of q.octets)

peer_by : (old new : RealmConfig) (i : ℕ) (q : PlainRequest) (r : Requester) (b : Bool)
    → keeps_request old.peers new.peers i q.key.from.ip ≡ b → (if b then Some (requester.Peer i) else None) ≡ Some r →
    i < length old.peers → IsOfPeer old i (packet_of q.octets) → outgrows old new q (requester.Peer i) ≡ false →
    GoesOn new q r
peer_by old new i q r false keeps is below h out = absurd (cc is)
peer_by old new i q r true keeps is below h out =
    subst (GoesOn new q) (same_Some (requester.Peer i) r is) (record {
      sender = peer_below old.peers new.peers i (secret_kept old.peers new.peers i q.key.from.ip keeps) below;
      can_go = peer_goes old new i q below h out;
    })

home_by : (old new : RealmConfig) (home : ℕ) (q : PlainRequest) (r : Requester) (o : Option ℕ)
    → home_then old.realm new.realm q.key.from.ip home ≡ o → option_map (λ h. requester.Home h) o ≡ Some r
    → home < homes old.realm → CanGo old (requester.Home home) (packet_of q.octets) → GoesOn new q r
home_by old new home q r None at is below h = absurd (cc is)
home_by old new home q r (Some i) at is below h =
    subst (GoesOn new q) (same_Some (requester.Home i) r is) (record {
      sender = home_after old.realm new.realm q.key.from.ip home i at below;
      can_go = h;
    })

goes_on : (old new : RealmConfig) (q : PlainRequest) (s r : Requester) → requester_then old new q.key s ≡ Some r
    → outgrows old new q s ≡ false → IsRequester old s → CanGo old s (packet_of q.octets) → GoesOn new q r
goes_on old new q (requester.Peer i) r is out sender can =
    peer_by old new i q r (keeps_request old.peers new.peers i q.key.from.ip) refl is sender can out
goes_on old new q (requester.Home home) r is out sender can =
    home_by old new home q r (home_then old.realm new.realm q.key.from.ip home) refl is sender can

pub request_stays : (old new : RealmConfig) (q p : PlainRequest) → request_then old new q ≡ Some p → IsRequest old q
    → IsRequest new p
request_stays old new q p is h =
    let from = is_sender old new q p is in
    let on = goes_on old new q q.requester from.sender from.then' from.fits h.requester h.can_go in
    subst (IsRequest new) (sym from.is) (record { packet = h.packet; can_go = on.can_go; requester = on.sender })

-- ---- it stands well

octets_stay : (old new : RealmConfig) (q p : PlainRequest) → request_then old new q ≡ Some p → p.octets ≡ q.octets
octets_stay old new q p is = ap (λ (x : PlainRequest). x.octets) (is_sender old new q p is).is

waits_well : (old new : RealmConfig) (q p : PlainRequest) (l : Link) (id : ℕ) (forwarded : List ℕ)
    (sends_left deadline signs : ℕ) (s : PlainStanding) (o : Option Link) → HaveDistinctServers old new
    → p.octets ≡ q.octets → IsWaiting old q l id forwarded → way_then old new l ≡ o
    → option_map (λ m. waiting m id forwarded sends_left deadline signs) o ≡ Some s → StandsWell new p s
waits_well old new q p l id forwarded sends_left deadline signs s None once same w at is = absurd (cc is)
waits_well old new q p l id forwarded sends_left deadline signs s (Some m) once same w at is =
    let one = waiting m id forwarded sends_left deadline signs in
    let back = way_back old new l m once w.link at in
    subst (StandsWell new p) (same_Some one s is) (record {
      link = back.1;
      id = w.id;
      packet = w.packet;
      size = subst (λ (o : List ℕ). length forwarded ≤ length o + 304) (sym same) w.size;
    })

stands_well : (old new : RealmConfig) (q p : PlainRequest) (before s : PlainStanding) → HaveDistinctServers old new
    → p.octets ≡ q.octets → StandsWell old q before → standing_then old new before ≡ Some s → StandsWell new p s
stands_well old new q p (waiting l id forwarded sends_left deadline signs) s once same w is =
    waits_well old new q p l id forwarded sends_left deadline signs s (way_then old new l) once same w refl is
stands_well old new q p (done reply deadline from) s once same w is =
    subst (StandsWell new p) (same_Some (done reply deadline (option_and_then (way_then old new) from)) s is) tt

pub entry_stays : (old new : RealmConfig) (n : ℕ) (before after : PlainEntry) → HaveDistinctServers old new
    → entry_then old new before ≡ Some after → IsEntry old n before → IsEntry new n after
entry_stays old new n before after once is h =
    let parts = entry_parts old new before after is in
    record {
      ticket = subst (λ (t : ℕ). t < n) (sym parts.ticket) h.ticket;
      request = request_stays old new before.request after.request parts.request h.request;
      standing = stands_well old new before.request after.request before.standing after.standing once
          (octets_stay old new before.request after.request parts.request) h.standing parts.standing;
    }

all_by : (old new : RealmConfig) (n : ℕ) (e : PlainEntry) (o : Option PlainEntry) (es : List PlainEntry)
    → HaveDistinctServers old new → entry_then old new e ≡ o → IsEntry old n e → AllByRecursion (IsEntry new n) es
    → AllByRecursion (IsEntry new n) (cons_option o es)
all_by old new n e None es once is h all = all
all_by old new n e (Some x) es once is h all = (entry_stays old new n e x once is h, all)

pub entries_stay : (old new : RealmConfig) (n : ℕ) (es : List PlainEntry) → HaveDistinctServers old new
    → AllByRecursion (IsEntry old n) es → AllByRecursion (IsEntry new n) (filter_map (entry_then old new) es)
entries_stay old new n [] once all = tt
entries_stay old new n (e ∷ es) once all =
    all_by old new n e (entry_then old new e) (filter_map (entry_then old new) es) once refl all.0
    (entries_stay old new n es once all.1)

-- A change that doesn't touch a realm takes nothing of it.
use Rattle.std.proofs.Common.{◌≡◌, inl, inr, ℕ, ◌-◌, ◌&&◌, nat_lt, Bool, true, false, not, List, [], ◌∷◌, length, Option, Some, None, is_some, option_map, refl, ap, ◌∙◌, arith, slice_get, if◌then◌else◌, drop}
use Rattle.std.specs.List.{filter, filter_map}
use Rattle.std.specs.Prelude.{nat_le}
use Rattle.std.proofs.lemmas.Bool.{cases_lt, le-ltb}
use Rattle.std.proofs.lemmas.Option.{slice_get_past}
use Rattle.roam_wire.specs.Reading.{packet_of}
use Rattle.roam_wire.specs.declared.packet_size.TheConstants.{MAX_PACKET_LENGTH}
use Rattle.roam_conf.specs.Config.{RealmView, ServerView}
use Rattle.roam_address.specs.declared.endpoint.Endpoint.{Endpoint}
use Rattle.roam_conf.specs.Duplicates.{same_endpoint}
use Rattle.roam_conf.specs.Lookup.{out_of}
use Rattle.roam_conf.specs.declared.place.Link.{Link}
use Rattle.roam_conf.specs.declared.place.Link.TheVariants as link
use Rattle.roam_conf.proofs.OneServerLemmas.{same_itself}
use Rattle.roam_forward.specs.Forwarded.{forwarded_length}
use Rattle.roam_forward.specs.Shaped.{Shaping, shaped}
use Rattle.roam_pending.specs.declared.key.Key.{Key}
use Rattle.roam_pending.specs.declared.key.Requester.{Requester}
use Rattle.roam_pending.specs.declared.key.Requester.TheVariants as requester
use Rattle.roam_pending.specs.PlainEntry.{PlainEntry, PlainRequest, PlainStanding, waiting, done}
use Rattle.roam_reload.specs.Kept.{KeepsSources, both_or_none, home_then, keeps_sessions, of_peer, same_out, same_servers, same_sessions, same_values, server_then}
use Rattle.roam_reload.proofs.KeptLemmas.{coa_stays, home_stays, requests_stay, server_stays, servers_itself, sessions_stay, values_itself}
use Rattle.roam_sessions.specs.Sessions.{Session}
use Rattle.roam_realm.specs.RealmConfig.{RealmConfig}
use Rattle.roam_realm.specs.declared.rest.Rest.{Rest}
use Rattle.roam_migrate.specs.Reload.{Carries, entries_then, entry_then, few_enough, fits, link_then, newest, outgrows, request_then, requester_then, rests_then, sessions_then, standing_then, way_then, without_done}
use Rattle.roam_migrate.proofs.ReloadLemmas.{shaping_stays}

pub servers_are : (old new : RealmConfig) → Carries old new → new.realm.servers ≡ old.realm.servers
servers_are old new k = ap (λ (r : RealmView). r.servers) k.table

-- ---- links

one_itself : (o : Option Endpoint) → both_or_none same_endpoint o o ≡ true
one_itself None = refl
one_itself (Some e) = same_itself e

pub out_stays : (old new : RealmConfig) → Carries old new → (out : ℕ) → same_out old.realm new.realm out ≡ true
out_stays old new k out =
    ap (λ (r : RealmView). both_or_none same_endpoint (slice_get old.realm.out out) (slice_get r.out out)) k.table
    ∙ one_itself (slice_get old.realm.out out)

server_is : (old new : RealmConfig) → Carries old new → (s : ℕ)
    → server_then old.realm.servers new.realm.servers s ≡ Some s
server_is old new k s =
    ap (λ (ss : List ServerView). server_then old.realm.servers ss s) (servers_are old new k)
    ∙ server_stays old.realm.servers s

link_is : (old new : RealmConfig) → Carries old new → (l : Link) → link_then old new l ≡ Some l
link_is old new k (link.Auth s out) = ap (option_map (λ t. link.Auth t out)) (server_is old new k s)
link_is old new k (link.Acct s out) = ap (option_map (λ t. link.Acct t out)) (server_is old new k s)
link_is old new k (link.Coa p out) = rw (coa_stays old.peers new.peers k.peers p) refl

pub way_is : (old new : RealmConfig) → Carries old new → (l : Link) → way_then old new l ≡ Some l
way_is old new k l = rw (out_stays old new k (out_of l)) (link_is old new k l)

-- ---- requests

requester_is :
    (old new : RealmConfig) → Carries old new → KeepsSources old.peers new.peers → (key : Key) (r : Requester)
    → requester_then old new key r ≡ Some r
requester_is old new k sources key (requester.Peer p) =
    rw (requests_stay old.peers new.peers k.peers sources p key.from.ip) refl
requester_is old new k sources key (requester.Home h) =
    ap (λ (r : RealmView). option_map (λ t. requester.Home t) (home_then old.realm r key.from.ip h)) k.table
    ∙ ap (option_map (λ t. requester.Home t)) (home_stays old.realm key.from.ip h)

not_both : (a b c : Bool) → c ≡ b → (a && b && not c) ≡ false
not_both true true c e = rw e refl
not_both true false c e = refl
not_both false b c e = refl

away : (b c : Bool) → (false && b && not c) ≡ false
away b c = refl

fits_as_before : (old new : RealmConfig) → Carries old new → (q : PlainRequest) (r : Requester)
    → outgrows old new q r ≡ false
fits_as_before old new k q (requester.Home h) = refl
fits_as_before old new k q (requester.Peer p) =
    elim (cases_lt p (length old.peers)) [
      | inl there ↦ (
          let same : fits new p q ≡ fits old p q =
          ap (λ (s : Shaping). nat_le (forwarded_length (shaped s (packet_of q.octets))) MAX_PACKET_LENGTH)
          (shaping_stays old new k p there) in
          not_both (is_some (slice_get old.peers p)) (fits old p q) (fits new p q) same)
      | inr past ↦ rw (slice_get_past old.peers p past) (away (fits old p q) (fits new p q))
    ]

request_is : (old new : RealmConfig) → Carries old new → KeepsSources old.peers new.peers → (q : PlainRequest)
    → request_then old new q ≡ Some q
request_is old new k sources q =
    rw (fits_as_before old new k q q.requester, requester_is old new k sources q.key q.requester) refl

-- ---- entries

standing_is :
    (old new : RealmConfig) → Carries old new → (s : PlainStanding) → standing_then old new s ≡ Some s
standing_is old new k (waiting l id forwarded sends_left deadline signs) = rw (way_is old new k l) refl
standing_is old new k (done reply deadline None) = refl
standing_is old new k (done reply deadline (Some l)) = rw (way_is old new k l) refl

entry_is : (old new : RealmConfig) → Carries old new → KeepsSources old.peers new.peers → (e : PlainEntry)
    → entry_then old new e ≡ Some e
entry_is old new k sources e = rw (request_is old new k sources e.request, standing_is old new k e.standing) refl

each_is : (old new : RealmConfig) → Carries old new → KeepsSources old.peers new.peers → (es : List PlainEntry)
    → filter_map (entry_then old new) es ≡ es
each_is old new k sources [] = refl
each_is old new k sources (e ∷ es) = rw (entry_is old new k sources e, each_is old new k sources es) refl

few_are : (old new : RealmConfig) → Carries old new → (es : List PlainEntry) → few_enough old new es ≡ es
few_are old new k es =
    ap (λ (r : RealmView). if nat_lt r.max_pending old.realm.max_pending
    then without_done (length es - r.max_pending) es else es) k.table
    ∙ rw (le-ltb old.realm.max_pending old.realm.max_pending (omega arith)) refl

pub entries_are : (old new : RealmConfig) → Carries old new → KeepsSources old.peers new.peers
    → (es : List PlainEntry) → entries_then old new es ≡ es
entries_are old new k sources es = ap (few_enough old new) (each_is old new k sources es) ∙ few_are old new k es

-- ---- rests and sessions

pub rests_are : (old new : RealmConfig) → Carries old new → (rests : List Rest) → rests_then old new rests ≡ rests
rests_are old new k rests =
    let stand : same_servers old.realm.servers new.realm.servers ≡ true =
    ap (λ (ss : List ServerView). same_servers old.realm.servers ss) (servers_are old new k)
    ∙ servers_itself old.realm.servers in
    rw stand refl

of_peers_here : (old new : RealmConfig) → Carries old new → (ss : List Session)
    → filter (λ s. of_peer keeps_sessions old.peers new.peers s.peer) ss ≡ ss
of_peers_here old new k [] = refl
of_peers_here old new k (s ∷ ss) =
    rw (sessions_stay old.peers new.peers k.peers s.peer, of_peers_here old new k ss) refl

newest_are : (old new : RealmConfig) → Carries old new → (ss : List Session) → newest old new ss ≡ ss
newest_are old new k ss =
    ap (λ (r : RealmView). if nat_lt r.max_sessions old.realm.max_sessions
    then drop (length ss - r.max_sessions) ss else ss) k.table
    ∙ rw (le-ltb old.realm.max_sessions old.realm.max_sessions (omega arith)) refl

pub sessions_are : (old new : RealmConfig) → Carries old new → (ss : List Session) → sessions_then old new ss ≡ ss
sessions_are old new k ss =
    let told : same_sessions old.realm new.realm ≡ true =
    ap (λ (r : RealmView). same_values old.realm.own_sessions r.own_sessions) k.table
    ∙ values_itself old.realm.own_sessions in
    rw told (ap (newest old new) (of_peers_here old new k ss) ∙ newest_are old new k ss)

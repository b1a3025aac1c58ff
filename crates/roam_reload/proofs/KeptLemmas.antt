-- Of equal tables all stays.
use Rattle.std.proofs.Common.{◌≡◌, ℕ, zero, suc, ◌&&◌, ◌||◌, Bool, true, false, List, [], ◌∷◌, ◌++◌, Option, Some, None, not, drop, get_or, map, refl, ap, ◌∙◌, slice_get}
use Rattle.std.specs.Str.{bytes_eq}
use Rattle.std.proofs.lemmas.Bool.{and_parts}
use Rattle.std.proofs.lemmas.Slice.Eq.{bytes_eq-Decides}
use Rattle.roam_conf.specs.Config.{PeerView, RealmView, ServerView}
use Rattle.roam_conf.specs.Duplicates.{same_endpoint}
use Rattle.roam_conf.specs.Lookup.{is_source_of}
use Rattle.roam_address.specs.declared.address.Address.{Address}
use Rattle.roam_address.specs.Same.{same_address}
use Rattle.roam_address.proofs.SameLemmas.{address_decides}
use Rattle.roam_conf.proofs.OneServerLemmas.{same_itself}
use Rattle.roam_reload.specs.Kept.{Source, both_or_none, home_then, KeepsSources, keeps_coa, keeps_request, keeps_secret, keeps_sessions, keeps_source, of_peer, same_server, same_servers, same_source, same_values, server_then, source, stays, takes_reverse}
use Rattle.roam_reload.specs.Reload.{KeepsPeers, peer_part}

bytes_itself : (xs : List ℕ) → bytes_eq xs xs ≡ true
bytes_itself xs = (bytes_eq-Decides xs xs).1 refl

stays_itself : (gone : Bool) → stays gone gone ≡ true
stays_itself true = refl
stays_itself false = refl

pub values_itself : (b : Bool) → same_values b b ≡ true
values_itself true = refl
values_itself false = refl

both_itself :
    {X : Type 0} (same : X → X → Bool) → ((x : X) → same x x ≡ true) → (o : Option X) → both_or_none same o o ≡ true
both_itself same h None = refl
both_itself same h (Some x) = h x

-- ---- servers, and sources of reverse requests

server_itself : (s : ServerView) → same_server s s ≡ true
server_itself s =
    rw (
      both_itself same_endpoint same_itself s.auth,
      both_itself same_endpoint same_itself s.acct,
      bytes_itself s.secret,
    ) refl

pub servers_itself : (ss : List ServerView) → same_servers ss ss ≡ true
servers_itself [] = refl
servers_itself (s ∷ ss) = rw (server_itself s, servers_itself ss) refl

pub server_stays : (ss : List ServerView) (s : ℕ) → server_then ss ss s ≡ Some s
server_stays ss s = rw (both_itself same_server server_itself (slice_get ss s)) refl

address_itself : (ip : Address) → same_address ip ip ≡ true
address_itself ip = (address_decides ip ip).1 refl

source_itself : (s : Source) → same_source s s ≡ true
source_itself s =
    rw (
      both_itself same_address address_itself s.ip,
      both_itself same_address address_itself s.other_ip,
      bytes_itself s.secret,
    ) refl

never_closes : (takes : Bool) → (takes && not takes) ≡ false
never_closes true = refl
never_closes false = refl

pub home_stays : (r : RealmView) (ip : Address) (home : ℕ) → home_then r r ip home ≡ Some home
home_stays r ip home =
    rw (never_closes (takes_reverse r), both_itself same_source source_itself (source r home)) refl

-- ---- peers

secret_itself : (p : PeerView) → keeps_secret p p ≡ true
secret_itself p = rw (stays_itself p.gone, bytes_itself p.secret) refl

pub coa_itself : (p : PeerView) → keeps_coa p p ≡ true
coa_itself p =
    rw (stays_itself p.gone, both_itself same_endpoint same_itself p.coa, bytes_itself p.secret) refl

-- a test that looks at a peer's part alone is passed by peers whose parts are kept
kept_at :
    (test : PeerView → PeerView → Bool) → ((p : PeerView) → test p p ≡ true)
    → ((a b : PeerView) → test a b ≡ test (peer_part a) (peer_part b)) → (old new more : List PeerView)
    → map peer_part new ≡ map peer_part old ++ more → (peer : ℕ) → of_peer test old new peer ≡ true
kept_at test itself parts [] new more same peer = refl
kept_at test itself parts (a ∷ old) [] more same peer = absurd cc
kept_at test itself parts (a ∷ old) (b ∷ new) more same zero =
    let heads : peer_part b ≡ peer_part a = ap (λ (ps : List PeerView). get_or ps 0 (peer_part a)) same in
    parts a b ∙ ap (λ (p : PeerView). test (peer_part a) p) heads ∙ itself (peer_part a)
kept_at test itself parts (a ∷ old) (b ∷ new) more same (suc peer) =
    kept_at test itself parts old new more (ap (λ (ps : List PeerView). drop 1 ps) same) peer

pub secret_stays :
    (old new : List PeerView) → KeepsPeers old new → (peer : ℕ) → of_peer keeps_secret old new peer ≡ true
secret_stays old new k peer = kept_at keeps_secret secret_itself (λ a b. refl) old new k.more k.same peer

-- a request that stays is of a peer that does
pub secret_kept : (old new : List PeerView) (p : ℕ) (ip : Address) → keeps_request old new p ip ≡ true
    → of_peer keeps_secret old new p ≡ true
secret_kept old new p ip is = (and_parts (of_peer keeps_secret old new p) (keeps_source old new p ip) is).0

-- where each source stays whose it was, so do a peer's requests
pub requests_stay :
    (old new : List PeerView) → KeepsPeers old new → KeepsSources old new → (peer : ℕ) (ip : Address)
    → keeps_request old new peer ip ≡ true
requests_stay old new k sources peer ip =
    rw (secret_stays old new k peer) (by_source (is_source_of old peer ip) refl)
  where
    by_source : (b : Bool) → is_source_of old peer ip ≡ b → (is_source_of new peer ip || not b) ≡ true
    by_source true was = rw (sources peer ip was) refl
    by_source false was = by_new (is_source_of new peer ip)
      where
        by_new : (b : Bool) → (b || true) ≡ true
        by_new true = refl
        by_new false = refl

pub coa_stays :
    (old new : List PeerView) → KeepsPeers old new → (peer : ℕ) → of_peer keeps_coa old new peer ≡ true
coa_stays old new k peer = kept_at keeps_coa coa_itself (λ a b. refl) old new k.more k.same peer

pub sessions_stay :
    (old new : List PeerView) → KeepsPeers old new → (peer : ℕ) → of_peer keeps_sessions old new peer ≡ true
sessions_stay old new k peer =
    kept_at keeps_sessions (λ p. stays_itself p.gone) (λ a b. refl) old new k.more k.same peer

-- A part of a configuration without what a realm's written broker doesn't look at: what names a realm, and whether a
-- peer's Access-Requests need a Message-Authenticator.
use Rattle.std.proofs.Common.{◌≡◌, ℕ, zero, suc, List, [], ◌∷◌, map, Some, slice_get, refl}
use Rattle.std.specs.Option.{option_map_or, option_and_then}
use Rattle.roam_conf.specs.Config.{PeerView, RealmView}
use Rattle.roam_conf.specs.Secrets as secrets
use Rattle.roam_reload.specs.Reload.{peer_part, realm_part}
use Rattle.roam_admission.specs.Shapings.{shaping_between}
use Rattle.roam_realm.specs.RealmConfig.{RealmConfig}

-- a part of a configuration without what isn't looked at
abbrev pub bare : RealmConfig → RealmConfig
bare c = record { seed = c.seed; index = c.index; realm = realm_part c.realm; peers = map peer_part c.peers }

-- peers by their index
pub peer_secret_same : (peers : List PeerView) (p : ℕ) →
    secrets.peer_secret (map peer_part peers) p ≡ secrets.peer_secret peers p
peer_secret_same [] p = refl
peer_secret_same (x ∷ xs) zero = refl
peer_secret_same (x ∷ xs) (suc p) = peer_secret_same xs p

pub coa_same : (peers : List PeerView) (p : ℕ) →
    option_and_then (λ (x : PeerView). x.coa) (slice_get (map peer_part peers) p)
    ≡ option_and_then (λ (x : PeerView). x.coa) (slice_get peers p)
coa_same [] p = refl
coa_same (x ∷ xs) zero = refl
coa_same (x ∷ xs) (suc p) = coa_same xs p

-- how a peer's requests are forwarded, and replies returned to it
pub between_same : (realm : RealmView) (peers : List PeerView) (p : ℕ) →
    shaping_between (slice_get (map peer_part peers) p) (Some (realm_part realm))
    ≡ shaping_between (slice_get peers p) (Some realm)
between_same realm [] p = refl
between_same realm (x ∷ xs) zero = refl
between_same realm (x ∷ xs) (suc p) = between_same realm xs p

pub list_same : (peers : List PeerView) (p : ℕ) →
    option_map_or (λ (x : PeerView). x.reply_without) (slice_get (map peer_part peers) p) []
    ≡ option_map_or (λ (x : PeerView). x.reply_without) (slice_get peers p) []
list_same [] p = refl
list_same (x ∷ xs) zero = refl
list_same (x ∷ xs) (suc p) = list_same xs p

-- The changes that a realm makes to its peers' requests (ours).
use Rattle.std.specs.Prelude.{ℕ, ◌++◌, Option, Some, None, slice_get}
use Rattle.roam_wire.specs.Packet.{Packet}
use Rattle.roam_conf.specs.Config.{ConfigView, PeerView, RealmView}
use Rattle.roam_forward.specs.Forwarded.{forwarded_length}
use Rattle.roam_forward.specs.Shaped.{Shaping, no_shaping, shaped}
use Rattle.roam_admission.specs.declared.job.Side.{Side}
use Rattle.roam_admission.specs.declared.job.Side.TheVariants as side

-- what a peer's and a realm's entries have done to a request of that peer: what the list of either names doesn't pass,
-- and what the peer has added
abbrev pub request_shaping : PeerView → RealmView → Shaping
request_shaping peer realm = record {
  removed = peer.request_without ++ realm.request_without;
  operator_name = peer.operator_name;
  ask_cui = peer.ask_cui;
}

-- nothing, where an entry isn't there
abbrev pub shaping_between : Option PeerView → Option RealmView → Shaping
shaping_between None realm = no_shaping
shaping_between (Some peer) None = no_shaping
shaping_between (Some peer) (Some realm) = request_shaping peer realm

-- by the indexes of the peer and of the realm
abbrev pub shaping_of : ConfigView → ℕ → ℕ → Shaping
shaping_of config peer realm = shaping_between (slice_get config.peers peer) (slice_get config.realms realm)

-- how many octets a realm is sent for a sender's request: a peer's goes out as it is shaped; of a home server's, whose
-- target isn't known yet, at most what is sent for it as it came
abbrev pub sent_length : ConfigView → Side → Packet → ℕ → ℕ
sent_length config (side.Peer i) p realm = forwarded_length (shaped (shaping_of config i realm) p)
sent_length config (side.Link l) p realm = forwarded_length p
sent_length config (side.Home i) p realm = forwarded_length p

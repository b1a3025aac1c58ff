-- The sender of a datagram that was dropped: a peer or a home server of the configuration, by where it came to. Ours.
use Rattle.std.specs.Prelude.{ℕ, List, Option, Some, None, slice_get}
use Rattle.roam_conf.specs.Config.{ConfigView, PeerView}
use Rattle.roam_conf.specs.Lookup.{asker_at, link_in, home_in}
use Rattle.roam_address.specs.declared.endpoint.Endpoint.{Endpoint}
use Rattle.roam_conf.specs.declared.place.Link.{Link}
use Rattle.roam_conf.specs.declared.place.Link.TheVariants as link
use Rattle.roam_conf.specs.declared.place.Place.{Place}
use Rattle.roam_conf.specs.declared.place.Place.TheVariants as place
use Rattle.roam_log.specs.declared.origin.Origin.{Origin}
use Rattle.roam_log.specs.declared.origin.Origin.TheVariants as origin
use Rattle.roam_log.specs.declared.sender.Sender.{Sender}
use Rattle.roam_log.specs.declared.sender.Sender.TheVariants as sender

-- who it is, with a peer's name
pub data Who : Type 0 where
  peer : List ℕ → Who
  home : Who
  unknown : Who

-- what a line has of it
abbrev pub shown_sender : Sender → Who
shown_sender (sender.Peer name) = peer name.now
shown_sender sender.HomeServer = home
shown_sender sender.Unknown = unknown

abbrev peer_if : Option PeerView → Who
peer_if None = unknown
peer_if (Some p) = peer p.name

-- a peer by its index
abbrev pub peer_at : List PeerView → Option ℕ → Who
peer_at peers None = unknown
peer_at peers (Some i) = peer_if (slice_get peers i)

-- whose link it is
abbrev pub who_at_link : List PeerView → Option Link → Who
who_at_link peers None = unknown
who_at_link peers (Some (link.Coa i out)) = peer_at peers (Some i)
who_at_link peers (Some (link.Auth i out)) = home
who_at_link peers (Some (link.Acct i out)) = home

abbrev home_if : Option ℕ → Who
home_if None = unknown
home_if (Some i) = home

-- who sends from this endpoint to this place
abbrev pub who_sends : ConfigView → Place → Endpoint → Who
who_sends config (place.Auth nth) from = peer_at config.peers (asker_at config.auth config.peers nth from.ip)
who_sends config (place.Acct nth) from = peer_at config.peers (asker_at config.acct config.peers nth from.ip)
who_sends config (place.Out realm nth) from = who_at_link config.peers (link_in config realm nth from)
who_sends config (place.Reverse realm nth) from = home_if (home_in config realm nth from.ip)

-- ## Sender of what was refused
-- At `auth` and `acct` the peer of its address; at a realm's `out` the home server or the peer whose link its
-- endpoint is; at
-- `reverse` a home server of its address; else nobody that is known.
-- Source: ours
-- Rules out: the name of another peer than the source's
-- Stands in: `roam_log` `Senders.antt`: `who_sent`; `RefusedText::new`
--
-- who sent what was refused
abbrev pub who_sent : ConfigView → Option Origin → Who
who_sent config (Some (origin.Datagram place from)) = who_sends config place from
who_sent config (Some (origin.Unsealed place from)) = who_sends config place from
who_sent config (Some (origin.Explained place from clue)) = who_sends config place from
who_sent config _ = unknown

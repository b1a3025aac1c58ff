-- The other end of a packet. Ours.
use Rattle.std.specs.Prelude.{ℕ, min, Option, option_map}
use Rattle.roam_conf.specs.Config.{ConfigView}
use Rattle.roam_conf.specs.Lookup.{asker_at, home_in, link_in}
use Rattle.roam_address.specs.declared.endpoint.Endpoint.{Endpoint}
use Rattle.roam_conf.specs.declared.place.Link.{Link}
use Rattle.roam_conf.specs.declared.place.Link.TheVariants as link
use Rattle.roam_conf.specs.declared.place.Place.{Place}
use Rattle.roam_conf.specs.declared.place.Place.TheVariants as place
use Rattle.roam_counters.specs.declared.cell.Subject.{Subject}
use Rattle.roam_counters.specs.declared.cell.Subject.TheVariants as subject

-- the subject of a link of a realm
abbrev pub subject_of : ℕ → Link → Subject
subject_of realm (link.Auth server out) = subject.Server realm server
subject_of realm (link.Acct server out) = subject.Server realm server
subject_of realm (link.Coa peer out) = subject.Peer peer

-- a source of a realm's reverse requests, by its number: those behind the first eight are one
abbrev pub source_of : ℕ → ℕ → Subject
source_of realm home = subject.Server realm (min home 8)

-- who has this endpoint: at `auth` and `acct` a peer by its address, at a realm's `out` one of the realm's links,
-- at its
-- `reverse` a source of its reverse requests by its address
abbrev pub end_at : ConfigView → Place → Endpoint → Option Subject
end_at config (place.Auth nth) endpoint = option_map subject.Peer (asker_at config.auth config.peers nth endpoint.ip)
end_at config (place.Acct nth) endpoint = option_map subject.Peer (asker_at config.acct config.peers nth endpoint.ip)
end_at config (place.Out realm nth) endpoint = option_map (subject_of realm) (link_in config realm nth endpoint)
end_at config (place.Reverse realm nth) endpoint = option_map (source_of realm) (home_in config realm nth endpoint.ip)

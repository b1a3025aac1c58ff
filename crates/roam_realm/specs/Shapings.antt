-- The changes that a realm makes to a peer's requests, and to replies to it (ours).
use Rattle.std.specs.Prelude.{ℕ, ◌==◌, List, [], ◌++◌, Some, slice_get, if◌then◌else◌}
use Rattle.std.specs.Option.{option_map_or}
use Rattle.roam_wire.specs.Reading.{packet_of}
use Rattle.roam_wire.specs.declared.code.TheConstants.{COA_REQUEST}
use Rattle.roam_wire.specs.declared.removed_attribute.RemovedAttribute.{RemovedAttribute}
use Rattle.roam_conf.specs.declared.place.Link.{Link}
use Rattle.roam_conf.specs.declared.place.Link.TheVariants as link
use Rattle.roam_forward.specs.Removal.{without_sessions}
use Rattle.roam_forward.specs.Forwarded.{forwarded_length}
use Rattle.roam_forward.specs.Shaped.{Shaping, no_shaping, shaped}
use Rattle.roam_admission.specs.Shapings.{shaping_between}
use Rattle.roam_pending.specs.declared.key.Requester.{Requester}
use Rattle.roam_pending.specs.declared.key.Requester.TheVariants as requester
use Rattle.roam_pending.specs.PlainEntry.{PlainRequest}
use Rattle.roam_realm.specs.RealmConfig.{RealmConfig}

-- what a peer's list and the realm's name together, of replies
abbrev pub reply_removed : RealmConfig → ℕ → List RemovedAttribute
reply_removed c peer =
    option_map_or (λ p. p.reply_without) (slice_get c.peers peer) [] ++ c.realm.reply_without

-- how a peer's requests are forwarded
abbrev pub shaping_from : RealmConfig → ℕ → Shaping
shaping_from c peer = shaping_between (slice_get c.peers peer) (Some c.realm)

-- how a home server's CoA-Request is forwarded to a peer: without what the home server may not set by an Access-Accept
-- for it, but for what names the session (RFC 5176, section 3). A Disconnect-Request is forwarded whole
abbrev pub shaping_to : RealmConfig → ℕ → Link → Shaping
shaping_to c code (link.Coa peer out) =
    if code == COA_REQUEST
    then record no_shaping { removed = without_sessions (reply_removed c peer) }
    else no_shaping
shaping_to c code (link.Auth server out) = no_shaping
shaping_to c code (link.Acct server out) = no_shaping

-- ## Shaping of a request
-- A peer's request is forwarded without what its list and the realm's for requests name, with its Operator-Name and
-- with its question for a Chargeable-User-Identity; a home server's CoA-Request without what the peer's list and the
-- realm's for replies name, but for what names a session; its Disconnect-Request as it came. The ledger, the causes of
-- reverse requests and the check for duplicates read a request as it came.
-- Source: RFC 5176 section 3; ours
-- Rules out: a list of one realm used for another, or of one peer; an attribute that a home server may not set by an
-- Access-Accept and sets by a CoA-Request
-- Stands in: `roam_realm` `Shapings.antt`: `shaping`, `removed_for`; `Book::request`, `Book::reply`, `Book::tick`
--
-- how a request is forwarded to a link
abbrev pub shaping_of : RealmConfig → Requester → ℕ → Link → Shaping
shaping_of c (requester.Peer peer) code l = shaping_from c peer
shaping_of c (requester.Home server) code l = shaping_to c code l

abbrev pub shaping : RealmConfig → PlainRequest → Link → Shaping
shaping c q l = shaping_of c q.requester (packet_of q.octets).code l

-- the size of what is forwarded, in octets
abbrev pub forwarded_size : RealmConfig → PlainRequest → Link → ℕ
forwarded_size c q l = forwarded_length (shaped (shaping c q l) (packet_of q.octets))

-- what doesn't pass of an Access reply to the sender of a request: to a home server all does
abbrev pub removed_for : RealmConfig → Requester → List RemovedAttribute
removed_for c (requester.Peer peer) = reply_removed c peer
removed_for c (requester.Home server) = []

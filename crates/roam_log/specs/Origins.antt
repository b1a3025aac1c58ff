-- The place where something was dropped. Ours.
use Rattle.std.specs.Prelude.{ℕ, Option, Some, None}
use Rattle.roam_conf.specs.declared.place.Place.{Place}
use Rattle.roam_conf.specs.declared.place.Place.TheVariants as place
use Rattle.roam_log.specs.declared.origin.Origin.{Origin}
use Rattle.roam_log.specs.declared.origin.Origin.TheVariants as origin
use Rattle.roam_log.specs.declared.origin.OriginKind.{OriginKind}
use Rattle.roam_log.specs.declared.origin.OriginKind.TheVariants as kind

-- ## Kind of a refusal
-- Its number, the place and the address that it came from, without the port; of a tick the shard. A reply without a
-- Message-Authenticator is of another kind than one with a wrong one.
-- Source: ours
-- Rules out: a flood from many ports logged as many
-- Stands in: `roam_log` `Origins.antt`: `kind_of`, `realm_of`; `Names.antt`: `realm_name`; `Origin::kind`,
-- `RefusedText::new`
--
-- what of it is compared: the port that a datagram came from is not
abbrev pub kind_of : Origin → OriginKind
kind_of (origin.Datagram place from) = kind.Source place from.ip
kind_of (origin.Unsealed place from) = kind.UnsealedSource place from.ip
kind_of (origin.Explained place from clue) = kind.Source place from.ip
kind_of (origin.Place place) = kind.Place place
kind_of (origin.Tick shard) = kind.Tick shard

-- the realm that a place belongs to
abbrev pub realm_at : Place → Option ℕ
realm_at (place.Auth nth) = None
realm_at (place.Acct nth) = None
realm_at (place.Out realm nth) = Some realm
realm_at (place.Reverse realm nth) = Some realm

-- the realm whose name stands in a line
abbrev pub realm_of : Origin → Option ℕ
realm_of (origin.Datagram place from) = realm_at place
realm_of (origin.Unsealed place from) = realm_at place
realm_of (origin.Explained place from clue) = realm_at place
realm_of (origin.Place place) = realm_at place
realm_of (origin.Tick shard) = None

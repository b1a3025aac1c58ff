-- The datagrams that arrive, the jobs that a realm is given, and the packets that leave (RFC 2865, section 3; ours).
use Rattle.std.specs.Prelude.{ℕ, Bool, List, Option}
use Rattle.roam_address.specs.declared.endpoint.Endpoint.{Endpoint}
use Rattle.roam_conf.specs.declared.place.Place.{Place}
use Rattle.roam_admission.specs.declared.job.Side.{Side}

-- a datagram that arrived: at which place, from where, its octets, where they came with it, the wall clock's
-- seconds since the beginning of 1970, and whether the session is kept that it opens, changes or ends: `false` where
-- there was no memory for that
pub record Arrival : Type 0 where
  pub at : Place
  pub from : Endpoint
  pub octets : List ℕ
  pub seconds : Option ℕ
  pub keeps_session : Bool

-- what a realm is given: a request or a reply, with the place and the source, who sent it, the octets
-- up to Length, the realm that the first User-Name of a request names, none in a reply; and whether the session is kept
-- that a reply opens, changes or ends
pub record PlainJob : Type 0 where
  pub realm : ℕ
  pub place : Place
  pub from : Endpoint
  pub side : Side
  pub octets : List ℕ
  pub named : Option ℕ
  pub keeps_session : Bool

-- a packet that leaves: for which realm, from which place, where to, and its octets
pub record PlainOut : Type 0 where
  pub realm : Option ℕ
  pub from : Place
  pub to : Endpoint
  pub bytes : List ℕ

-- The distance that the Event-Timestamp of a Disconnect- or CoA-Request may have from the wall clock (RFC 5176, section
-- 6.3).
use Rattle.std.specs.Prelude.{◌≡◌, ℕ, ◌+◌, ◌≤◌, ◌&&◌, nat_le, Bool, true, List, [], ◌∷◌, Option, Some, None, option_and_then}
use Rattle.std.specs.Int.{w32, from_be_bytes}
use Rattle.roam_wire.specs.Packet.{Attribute, Packet}
use Rattle.roam_wire.specs.Attributes.{first_value}
use Rattle.roam_wire.specs.declared.attribute_type.TheConstants.{EVENT_TIMESTAMP}
use Rattle.roam_conf.specs.Config.{ConfigView}
use Rattle.roam_conf.specs.declared.place.Place.{Place}
use Rattle.roam_conf.specs.declared.place.Place.TheVariants as place

-- the seconds since the beginning of 1970 that four octets say; others say none (RFC 2869, section 5.3)
abbrev pub seconds_in : List ℕ → Option ℕ
seconds_in (a ∷ b ∷ c ∷ d ∷ []) = Some (from_be_bytes w32 (a ∷ b ∷ c ∷ d ∷ []))
seconds_in _ = None

-- when a request was sent first, by its first Event-Timestamp
abbrev pub sent_at : List Attribute → Option ℕ
sent_at attributes = option_and_then seconds_in (first_value EVENT_TIMESTAMP attributes)

-- whether two times are at most so many seconds apart
abbrev pub are_near : ℕ → ℕ → ℕ → Bool
are_near most one other = nat_le one (other + most) && nat_le other (one + most)

-- the same where there is a limit, and where both times are known
abbrev pub near_enough : Option ℕ → Option ℕ → Option ℕ → Bool
near_enough (Some most) (Some one) (Some other) = are_near most one other
near_enough _ _ _ = true

-- ## Fresh request
-- In a configuration with `fresh`, a Disconnect- or CoA-Request whose first Event-Timestamp has four octets, and whose
-- arrival came with the wall clock's seconds, is fresh where the two are at most `fresh` seconds apart, on either
-- side. Without that key, that attribute or those seconds nothing is looked at. Another request is refused, Stale.
-- Source: RFC 5176 section 6.3, RFC 2869 section 5.3; that a request without a time passes is ours
-- Rules out: a recorded request played again later; a home server's clock that runs behind taken for a replay within
-- the limit
-- Stands in: `roam_admission` `Freshness.antt`: `is_fresh`, `AdmittedRequests.antt`: `IsFresh`; `prepare`, the law
-- `admitted_requests`
--
-- whether a reverse request isn't stale, by the limit that there may be, and by the wall clock's seconds that may have
-- come with it
abbrev pub is_fresh : Option ℕ → Option ℕ → List Attribute → Bool
is_fresh most seconds attributes = near_enough most seconds (sent_at attributes)

-- the same as a fact, of a request by its place: one that came elsewhere is never stale
abbrev pub IsFresh : ConfigView → Option ℕ → Place → Packet → Type 0
IsFresh config seconds (place.Reverse realm nth) p =
    (most now sent : ℕ) → config.fresh ≡ Some most → seconds ≡ Some now → sent_at p.attributes ≡ Some sent
    → (now ≤ sent + most) × (sent ≤ now + most)
IsFresh config seconds _ p = Unit {0}

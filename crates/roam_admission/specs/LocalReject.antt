-- The Access-Requests that are answered by a local reject (ours).
use Rattle.std.specs.Prelude.{ℕ, ◌&&◌, ◌||◌, not, nat_lt, Bool, false, List, Option, Some, None, is_some, if◌then◌else◌}
use Rattle.std.specs.Option.{option_map_or}
use Rattle.roam_wire.specs.Packet.{Attribute, Packet}
use Rattle.roam_wire.specs.Attributes.{count_of, first_value}
use Rattle.roam_wire.specs.declared.attribute_type.TheConstants.{USER_PASSWORD, CHAP_PASSWORD, PROXY_STATE}
use Rattle.roam_crypto.specs.Hiding.{password_fits}
use Rattle.roam_conf.specs.Asking.{takes_in}
use Rattle.roam_conf.specs.Config.{ConfigView}
use Rattle.roam_admission.specs.UserName.{realm_of}
use Rattle.roam_admission.specs.declared.job.Side.{Side}
use Rattle.roam_admission.specs.declared.job.Side.TheVariants as side

-- whether an Access-Request's passwords can't be carried: both User-Password and CHAP-Password, two
-- User-Passwords, or one of another size (RFC 2865, sections 4.1 and 5.2)
abbrev pub has_bad_password : Packet → Bool
has_bad_password request =
    (nat_lt 0 (count_of USER_PASSWORD request.attributes) && nat_lt 0 (count_of CHAP_PASSWORD request.attributes))
    || nat_lt 1 (count_of USER_PASSWORD request.attributes)
    || option_map_or (λ value. not (password_fits value)) (first_value USER_PASSWORD request.attributes) false

-- ## Hops
-- The Proxy-States of a request: each proxy on its way has added one. Too many are more than `max_hops`, where
-- it is set: then an Access-Request gets a local reject, and an Accounting-, Disconnect- or CoA-Request is
-- refused (24). Replies aren't counted.
-- Source: RFC 2865 section 5.33; the limit ours
-- Rules out: a request that runs in a circle until no Identifier is left
-- Stands in: `roam_admission` `LocalReject.antt`: `has_too_many_hops`, `Admission.antt`: `has_few_hops`; `prepare`
--
-- whether more proxies forwarded a request than may, where there is a limit: each adds a Proxy-State
-- (RFC 2865, section 5.33; the limit is ours)
abbrev pub has_too_many_hops : Option ℕ → Packet → Bool
has_too_many_hops None request = false
has_too_many_hops (Some most) request = nat_lt most (count_of PROXY_STATE request.attributes)

-- whether a realm takes the requests of a sender: of a peer where its list and its guard against loops let it ask
abbrev pub takes_of : ConfigView → ℕ → Side → Bool
takes_of config realm (side.Peer i) = takes_in config realm i
takes_of config realm (side.Link l) = false
takes_of config realm (side.Home i) = false

-- a realm that is named, where it takes the requests of a sender
abbrev pub taking : ConfigView → Side → Option ℕ → Option ℕ
taking config s None = None
taking config s (Some realm) = if takes_of config realm s then Some realm else None

-- the realm that a request of a sender asks: the one that it names, where that takes the sender's requests (ours)
abbrev pub asked_realm : ConfigView → Side → List Attribute → Option ℕ
asked_realm config s attributes = taking config s (realm_of config attributes)

-- whether an Access-Request is answered by a local reject: it names no realm that takes the sender's requests, its
-- passwords can't be carried, or it has too many hops (ours)
abbrev pub is_rejected : ConfigView → Side → Packet → Bool
is_rejected config s request =
    not (is_some (asked_realm config s request.attributes))
    || has_bad_password request
    || has_too_many_hops config.max_hops request

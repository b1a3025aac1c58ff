-- Endpoints: an address and a UDP port, and their texts.
use Rattle.std.specs.Prelude.{◌≡◌, ℕ, List, ◌++◌, codes, Some}
use Rattle.std.specs.Fmt.{decimal}
use Rattle.roam_address.specs.declared.endpoint.Endpoint.{Endpoint}
use Rattle.roam_address.specs.Addresses.{as_host, address_text, IsHostText}
use Rattle.roam_address.specs.Decimals.{decimal_in}

-- ## Endpoints
-- An address and a UDP port: the address, that of IPv6 in brackets, a colon, and the port from 1 to 65535 without
-- leading zeros.
-- Source: RFC 3986 section 3.2.2, RFC 5952 section 6, ours
-- Rules out: an IPv6 address without brackets; port 0; a port with a leading zero
-- Stands in: `roam_address` `Endpoints.antt`: `IsEndpointText`, `endpoint_text`; `Endpoint::from_text`, the law
-- `endpoint_is_read_back`
--
-- the text states the endpoint
pub record IsEndpointText (text : List ℕ) (endpoint : Endpoint) : Type 0 where
  pub host : List ℕ
  pub port : List ℕ
  pub spelled : text ≡ host ++ codes ":" ++ port
  pub address : IsHostText host endpoint.ip
  pub number : decimal_in 1 65535 port ≡ Some endpoint.port

-- what is printed of an endpoint
abbrev pub endpoint_text : Endpoint → List ℕ
endpoint_text endpoint =
    as_host endpoint.ip (address_text endpoint.ip) ++ codes ":" ++ decimal endpoint.port

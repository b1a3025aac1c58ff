-- The datagrams that are requests, and the jobs that may lose their session. Requests, by their first octet:
-- Access-Request 1, Accounting-Request 4, Status-Server 12, Disconnect-Request 40, CoA-Request 43 (RFC 2865 section 3,
-- RFC 5997 section 3, RFC 5176 section 2.3).
use Rattle.std.specs.Prelude.{ℕ, ◌==◌, ◌||◌, Bool, false, List, [], ◌∷◌}
use Rattle.roam_wire.specs.declared.code.TheConstants.{ACCOUNTING_RESPONSE}
use Rattle.roam_conf.specs.declared.place.Place.{Place}
use Rattle.roam_conf.specs.declared.place.Place.TheVariants as place
use Rattle.roam_admission.specs.Arrivals.{PlainJob}
use Rattle.roam_outgoing.specs.Packets.{code_of}

abbrev pub is_request_code : ℕ → Bool
is_request_code code = code == 1 || (code == 4 || (code == 12 || (code == 40 || code == 43)))

abbrev pub is_request : List ℕ → Bool
is_request [] = false
is_request (code ∷ rest) = is_request_code code

-- an Accounting-Response that came from a home server may be taken without its session (RFC 2866, section 2; ours)
abbrev pub is_of_session : Place → ℕ → Bool
is_of_session (place.Out realm nth) code = code == ACCOUNTING_RESPONSE
is_of_session _ code = false

abbrev pub may_lose_session : PlainJob → Bool
may_lose_session job = is_of_session job.place (code_of job.octets)

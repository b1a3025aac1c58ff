-- The cause of a NAK, in the line of its exchange (RFC 5176, section 3.5).
use Rattle.std.specs.Prelude.{ℕ, ◌==◌, List, [], ◌++◌, Option, Some, None, if◌then◌else◌, codes}
use Rattle.std.specs.Fmt.{decimal}

-- the word of an Error-Cause, where it has one (RFC 5176, section 3.5)
abbrev pub error_cause_word : ℕ → Option (List ℕ)
error_cause_word n =
    if n == 201 then Some (codes "residual_session_context_removed")
    else if n == 202 then Some (codes "invalid_eap_packet")
    else if n == 401 then Some (codes "unsupported_attribute")
    else if n == 402 then Some (codes "missing_attribute")
    else if n == 403 then Some (codes "nas_identification_mismatch")
    else if n == 404 then Some (codes "invalid_request")
    else if n == 405 then Some (codes "unsupported_service")
    else if n == 406 then Some (codes "unsupported_extension")
    else if n == 407 then Some (codes "invalid_attribute_value")
    else if n == 501 then Some (codes "administratively_prohibited")
    else if n == 502 then Some (codes "request_not_routable")
    else if n == 503 then Some (codes "session_context_not_found")
    else if n == 504 then Some (codes "session_context_not_removable")
    else if n == 505 then Some (codes "other_proxy_processing_error")
    else if n == 506 then Some (codes "resources_unavailable")
    else if n == 507 then Some (codes "request_initiated")
    else if n == 508 then Some (codes "multiple_session_selection_unsupported")
    else None

abbrev pub cause_if : Option (List ℕ) → List ℕ
cause_if None = []
cause_if (Some word) = codes " cause=" ++ word

-- why a NAK was given: the number, and its word
abbrev pub error_cause_text : Option ℕ → List ℕ
error_cause_text None = []
error_cause_text (Some n) = (codes " error_cause=" ++ decimal n) ++ cause_if (error_cause_word n)

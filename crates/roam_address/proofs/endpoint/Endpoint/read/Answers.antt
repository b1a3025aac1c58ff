use Rattle.std.proofs.Common.{Some, None, arith, sym, subst}
use Rattle.roam_address.specs.Endpoints.{IsEndpointText}
use Rattle.roam_address.specs.Reading.{Reads}
use Rattle.roam_address.proofs.EndpointLemmas.{reads_no_colon}
use Rattle.roam_address.proofs.SplitLemmas.{last_cut}
use Rattle.roam_address.proofs.TextLemmas.{both_read}
use Rattle.roam_address.proofs.endpoint.Endpoint.read.Goals as goal

-- cut at the last colon (58)
pub returns-in-Some : goal.returns-in-Some
returns-in-Some c =
    let text = c.args.text.now in
    let host = c.in-Some.address.now in
    let port = c.in-Some.port.now in
    let cut = last_cut 58 text (Some (c.in-Some.address, c.in-Some.port)) c.in-Some.ensures.cases (omega arith) in
    subst (Reads IsEndpointText text) (sym c.from_parts.ensures)
    (both_read text host port cut.0 cut.1 c.host.result c.host.ensures c.decimal.result (sym c.decimal.ensures.value))

-- without one
pub returns-in-None : goal.returns-in-None
returns-in-None c =
    reads_no_colon c.args.text.now (last_cut 58 c.args.text.now None c.in-None.ensures.cases (omega arith))

use Rattle.std.proofs.Common.{arith}
use Rattle.roam_address.specs.Endpoints.{IsEndpointText, endpoint_text}
use Rattle.roam_address.proofs.AddressLemmas.{read_back, printed_states}
use Rattle.roam_address.proofs.EndpointLemmas.{one_endpoint, endpoint_printed}
use Rattle.roam_address.proofs.laws.endpoint_is_read_back.Goals as goal

pub returns : goal.returns
returns c =
    let e = c.args.endpoint in
    let states = endpoint_printed e (printed_states e.ip c.show_ranges.ensures c.requires.unmapped) c.requires.port
    (omega arith) in
    read_back IsEndpointText (endpoint_text e) e c.args.read
    (λ x is. one_endpoint (endpoint_text e) x e is states) states c.requires.read

use Rattle.roam_address.proofs.TextLemmas.{is_endpoint_in, port_in}
use Rattle.roam_address.proofs.endpoint.Endpoint.from_text.Goals as goal

pub returns-clause-value : goal.returns-clause-value
returns-clause-value c = is_endpoint_in c.args.text.now c.read.result c.read.ensures

pub returns-clause-port : goal.returns-clause-port
returns-clause-port c = port_in c.args.text.now c.read.result c.read.ensures

use Rattle.roam_address.specs.Endpoints.{endpoint_text}
use Rattle.roam_sim.specs.Lines.{realm_text, place_text}
use Rattle.hex.specs.Hex.{encode_lower}
use Rattle.roam_sim.proofs.PrintingLemmas.{printed_line}
use Rattle.roam_sim.proofs.printing.print_packet.Goals as goal

pub returns : goal.returns
returns g c =
    let known = g.W.Write.contents in
    printed_line c.write_all-4.result (known c.args.writer.now) (known c.print_realm.new.writer)
    (known c.write_all.new.self)
    (known c.print_place.new.writer) (known c.write_all-2.new.self) (known c.print_endpoint.new.writer)
    (known c.write_all-3.new.self)
    (known c.print_octets.new.writer) (known c.write_all-4.new.self)
    (realm_text c.args.realm) (place_text c.args.from) (endpoint_text c.args.to) (encode_lower c.args.octets.now)
    c.in_ok-print_realm.ensures c.in_ok-write_all.ensures.bytes c.in_ok-print_place.ensures
    c.in_ok-write_all-2.ensures.bytes
    c.in_ok-print_endpoint.ensures c.in_ok-write_all-3.ensures.bytes c.in_ok-print_octets.ensures
    c.write_all-4.ensures.bytes

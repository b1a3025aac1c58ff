use Rattle.std.proofs.Common.{arith}
use Rattle.roam_sim.proofs.PrintingLemmas.{printed_next}
use Rattle.roam_sim.proofs.simulation.print_packets.Goals as goal

pub loop-packet-preserved : goal.loop-packet-preserved
loop-packet-preserved g c =
    printed_next c.args.packets.now c.packet-item.result c.loop-packet.packet-index _ _ _ (omega arith) c.packet-item.is
    c.loop-packet.invariant (rw c.as_slice-octets.ensures at c.in_ok-print_packet.ensures)

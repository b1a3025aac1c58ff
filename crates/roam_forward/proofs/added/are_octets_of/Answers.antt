use Rattle.std.proofs.Common.{◌≡◌, Some, subst}
use Rattle.roam_wire.specs.Packet.{AreOctets}
use Rattle.roam_forward.proofs.added.are_octets_of.Goals as goal

pub returns-in-Some : goal.returns-in-Some
returns-in-Some c = λ octets is.
    let some : Some c.in-Some.name.now ≡ Some octets = rw c.in-Some.is at is in
    let same : c.in-Some.name.now ≡ octets = cc some in
    subst AreOctets same c.are_octets.ensures

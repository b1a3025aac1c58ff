use Rattle.std.proofs.Common.{◌∙◌, ap}
use Rattle.roam_wire.specs.Packet.{Packet}
use Rattle.roam_wire.specs.Reading.{packet_of}
use Rattle.roam_wire.proofs.view.View.authenticator.Goals as goal

-- the packet's Authenticator is read off its octets
pub returns : goal.returns
unfolding packet_of
returns c = c.authenticator_of.ensures ∙ ap (λ (p : Packet). p.authenticator) c.self.view_is

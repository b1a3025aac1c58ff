-- What was written are the octets before the one that comes.
use Rattle.std.proofs.Common.{take}
use Rattle.std.specs.Fmt.{HasWritten, IsPlainFormatter}
use Rattle.roam_cli.specs.Escaped.{escaped}
use Rattle.roam_cli.proofs.escaped.EscapedDisplay.fmt.Given as goal

abbrev pub invariant-loop-octet : goal.invariant-loop-octet
invariant-loop-octet g l =
    IsPlainFormatter l.initial.f
    → HasWritten g.W.Write.write_str_gives l.initial.f (escaped (take l.octet-index l.self.0.now)) l.f

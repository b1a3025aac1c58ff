use Rattle.std.proofs.Common.{List, length, ap, arith}
use Rattle.roam_wire.specs.Packet.{Attribute, attributes_text}
use Rattle.roam_forward.specs.Shaped.{shown_shaping}
use Rattle.roam_forward.proofs.ShapedLemmas.{length-shaped}
use Rattle.roam_forward.proofs.shaped.len_with.Goals as goal

-- the header, what passes, and what is added
pub returns-clause-size : goal.returns-clause-size
returns-clause-size c =
    omega (
      arith,
      length-shaped (shown_shaping c.args.shaping.now) c.args.request.now,
      c.without_len.ensures.all,
      c.added_len.ensures.all,
      ap (λ (l : List Attribute). length (attributes_text l)) c.requires.added,
    )

use Rattle.std.proofs.Common.{ap, ◌∙◌, arith, drop, length}
use Rattle.roam_wire.proofs.LawLemmas.{length-packet_text}
use Rattle.roam_forward.proofs.WholeLemmas.{behind_header}
use Rattle.roam_forward.proofs.lists.all_octets.Goals as goal

pub split_at-requires : goal.split_at-requires
split_at-requires c =
    omega (
      arith,
      ap length c.octets.ensures.text,
      length-packet_text c.args.view.now c.octets.ensures.packet,
    )

pub returns-clause-text : goal.returns-clause-text
returns-clause-text c =
    c.split_at.ensures.back ∙ ap (drop 20) c.octets.ensures.text
    ∙ behind_header c.args.view.now c.octets.ensures.packet

pub returns-clause-few : goal.returns-clause-few
returns-clause-few c =
    omega (
      arith,
      ap length c.split_at.ensures.back,
      ap (λ t. length (drop 20 t)) c.octets.ensures.text,
      ap length (behind_header c.args.view.now c.octets.ensures.packet),
      c.octets.ensures.packet.size,
    )

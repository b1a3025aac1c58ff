-- A request from which only attributes are taken out is no longer than it was.
use Rattle.std.proofs.Common.{◌≡◌, ◌≢◌, ◌+◌, ◌≤◌, Bool, true, false, None, List, [], ◌++◌, length, refl, ap, arith}
use Rattle.std.specs.Prelude.{◌==◌, if◌then◌else◌}
use Rattle.std.proofs.lemmas.Bool.{ne_eqb}
use Rattle.roam_wire.specs.Packet.{Attribute, Packet, IsPacket, attributes_text, packet_length}
use Rattle.roam_wire.specs.declared.code.TheConstants.{ACCESS_REQUEST, ACCOUNTING_REQUEST}
use Rattle.roam_forward.specs.Without.{without}
use Rattle.roam_forward.proofs.WithoutLemmas.{length-without}
use Rattle.roam_forward.specs.Forwarded.{CanBeForwarded, forwarded_length}
use Rattle.roam_forward.specs.Shaped.{CanBeShaped, Shaping, added_operator_name, all_added, shaped}
use Rattle.roam_forward.proofs.ShapedLemmas.{forwarded-other_shaped, length-shaped}

no_name : (b : Bool) (all : List Attribute) → (if b then added_operator_name None all else []) ++ [] ≡ []
no_name true all = refl
no_name false all = refl

-- nothing is added to a request that isn't an Access-Request where no Operator-Name is
nothing-added : (s : Shaping) (q : Packet) → s.operator_name ≡ None → q.code ≢ ACCESS_REQUEST → all_added s q ≡ []
nothing-added s q name other =
    let code : (q.code == ACCESS_REQUEST) ≡ false = ne_eqb q.code ACCESS_REQUEST other in
    rw (code, name) (no_name (q.code == ACCOUNTING_REQUEST) (without s.removed q.attributes))

forwarded-other : (q : Packet) → q.code ≢ ACCESS_REQUEST → forwarded_length q ≡ packet_length q + 10
unfolding forwarded_length
forwarded-other q other =
    let code : (q.code == ACCESS_REQUEST) ≡ false = ne_eqb q.code ACCESS_REQUEST other in
    rw code (omega arith)

-- so what is forwarded for it is no longer
pub forwarded-shorter : (s : Shaping) (q : Packet) → s.operator_name ≡ None → q.code ≢ ACCESS_REQUEST → IsPacket q →
    forwarded_length (shaped s q) ≤ forwarded_length q
forwarded-shorter s q name other packet =
    omega (
      arith,
      forwarded-other_shaped s q other,
      forwarded-other q other,
      length-shaped s q,
      ap (λ (l : List Attribute). length (attributes_text l)) (nothing-added s q name other),
      length-without s.removed q.attributes packet.attributes,
    )

-- and what can be forwarded can be as it is shaped
pub CanBeShaped-shorter : (s : Shaping) (q : Packet) → s.operator_name ≡ None → q.code ≢ ACCESS_REQUEST →
    IsPacket q → CanBeForwarded q → CanBeShaped s q
CanBeShaped-shorter s q name other packet can = record {
  message_authenticator = can.message_authenticator;
  passwords = can.passwords;
  size = omega (arith, forwarded-shorter s q name other packet, can.size);
}

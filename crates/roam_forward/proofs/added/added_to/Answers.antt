use Rattle.std.proofs.Common.{List, ◌++◌, ap, ap₂, ◌∙◌}
use Rattle.std.specs.Prelude.{◌==◌, ◌&&◌}
use Rattle.roam_wire.specs.Attributes.{count_of}
use Rattle.roam_wire.specs.Packet.{Attribute}
use Rattle.roam_wire.specs.declared.attribute_type.TheConstants.{CHARGEABLE_USER_IDENTITY}
use Rattle.roam_wire.specs.declared.code.TheConstants.{ACCESS_REQUEST}
use Rattle.roam_forward.specs.Removal.{removed_by}
use Rattle.roam_forward.specs.Without.{without}
use Rattle.roam_forward.specs.Private.Added.{cui_of}
use Rattle.roam_forward.proofs.AddedLemmas.{cui-added}
use Rattle.roam_forward.proofs.added.added_to.Goals as goal

-- each of the three is what is added of it
pub returns-clause-all : goal.returns-clause-all
returns-clause-all c =
    let all = without (removed_by c.args.shaping.now.removal) c.args.request.now.attributes in
    let asked = c.args.shaping.now.ask_cui && (count_of CHARGEABLE_USER_IDENTITY all == 0) in
    ap₂ (λ (x y : List Attribute). x ++ y) c.challenge_to_add-challenge.ensures
    (ap₂ (λ (x y : List Attribute). x ++ y) c.operator_name_to_add-operator_name.ensures.name
    (ap cui_of c.takes_cui-cui.ensures ∙ cui-added (c.args.request.now.code == ACCESS_REQUEST) asked))

use Rattle.std.proofs.Common.{◌≡◌, ◌==◌, false, Option, ap, ◌∙◌}
use Rattle.std.proofs.lemmas.Bool.{ne_eqb}
use Rattle.roam_wire.specs.declared.attribute_type.TheConstants.{VENDOR_SPECIFIC}
use Rattle.roam_crypto.specs.declared.salted_kinds.Salting.{Salting}
use Rattle.roam_crypto.specs.SaltedFunctions.{value_anew}
use Rattle.roam_crypto.specs.HidingKeys.{password_key}
use Rattle.roam_crypto.proofs.SaltedFunctionLemmas.{is_hidden_anew}
use Rattle.roam_crypto.proofs.VendorLemmas.{is_vendor_anew}
use Rattle.roam_crypto.proofs.packet_values.rehide_value_of.Goals as goal

-- the one way in which it can be hidden anew
pub returns-then-kind-eq-USER_PASSWORD : goal.returns-then-kind-eq-USER_PASSWORD
returns-then-kind-eq-USER_PASSWORD c =
    rw (c.in-UserPassword.is, c.if-kind-eq-USER_PASSWORD.true)
    (is_hidden_anew (password_key c.args.from) (password_key c.args.to) c.args.value.now
    c.rehide_password.new.value c.rehide_password.ensures)

pub returns-then-kind-eq-VENDOR_SPECIFIC : goal.returns-then-kind-eq-VENDOR_SPECIFIC
returns-then-kind-eq-VENDOR_SPECIFIC c =
    rw (c.in-SaltedStrings.is, c.if-kind-eq-VENDOR_SPECIFIC.true)
    (is_vendor_anew (password_key c.args.from) (password_key c.args.to) c.args.value.now
    c.rehide_vendor.new.value c.rehide_vendor.ensures)

pub returns-else-kind-eq-VENDOR_SPECIFIC : goal.returns-else-kind-eq-VENDOR_SPECIFIC
returns-else-kind-eq-VENDOR_SPECIFIC c =
    let no : (c.args.kind == VENDOR_SPECIFIC) ≡ false =
    ne_eqb c.args.kind VENDOR_SPECIFIC c.if-kind-eq-VENDOR_SPECIFIC.false in
    rw (c.in-SaltedStrings.is, no)
    (c.rehide_by.ensures
    ∙ ap (λ (salting : Option Salting). value_anew (password_key c.args.from) (password_key c.args.to) salting
    c.args.value.now) c.salting_of.ensures)

use Rattle.std.proofs.Common.{sym, ◌∙◌}
use Rattle.roam_crypto.specs.HidingKeys.{password_key}
use Rattle.roam_crypto.proofs.VendorLemmas.{well_formed_subs, behind_spelt, vendor_written, malformed_stays}
use Rattle.roam_crypto.proofs.vendor_specific.rehide_vendor.Goals as goal

-- what stands behind the vendor are its sub-attributes
pub rehide_subs-requires : goal.rehide_subs-requires
rehide_subs-requires c =
    let has = well_formed_subs c.args.value.now (sym c.is_well_formed.ensures ∙ c.if-is_well_formed.true) in
    (has.0, behind_spelt c.args.value.now has.0 has.1)

pub returns-then-is_well_formed : goal.returns-then-is_well_formed
returns-then-is_well_formed c =
    let value = c.args.value.now in
    let has = well_formed_subs value (sym c.is_well_formed.ensures ∙ c.if-is_well_formed.true) in
    vendor_written (password_key c.args.from) (password_key c.args.to) value c.rehide_subs.new.octets has.0
    c.vendor_of-vendor.result has.1 c.vendor_of-vendor.ensures
    (c.rehide_subs.ensures has.0 (behind_spelt value has.0 has.1))

pub returns-else-is_well_formed : goal.returns-else-is_well_formed
returns-else-is_well_formed c =
    malformed_stays (password_key c.args.from) (password_key c.args.to) c.args.value.now
    (sym c.is_well_formed.ensures ∙ c.if-is_well_formed.false)

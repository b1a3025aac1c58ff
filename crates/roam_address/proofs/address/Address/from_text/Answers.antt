use Rattle.roam_address.proofs.AddressLemmas.{reads_new, reads_none}
use Rattle.roam_address.proofs.TextLemmas.{is_address_in}
use Rattle.std.proofs.Common.{None}
use Rattle.roam_address.proofs.address.Address.from_text.Goals as goal

-- what std reads
pub returns-in-Ok-clause-states : goal.returns-in-Ok-clause-states
returns-in-Ok-clause-states c =
    reads_new c.args.text.now c.in-Ok.ip c.new.result c.in-Ok.ensures.value c.new.ensures

pub returns-in-Ok-clause-value : goal.returns-in-Ok-clause-value
returns-in-Ok-clause-value c =
    is_address_in c.args.text.now c.new.result
    (reads_new c.args.text.now c.in-Ok.ip c.new.result c.in-Ok.ensures.value c.new.ensures)

-- what it doesn't
pub returns-in-Err-clause-value : goal.returns-in-Err-clause-value
returns-in-Err-clause-value c =
    is_address_in c.args.text.now None (reads_none c.args.text.now c.in-Err.ensures.value)

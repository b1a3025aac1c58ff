use Rattle.roam_admission.proofs.AccountingLemmas.{accounting_is_packet}
use Rattle.roam_admission.proofs.answering.unsealed_accounting.Goals as goal

pub returns-in_err-out-clause-packet : goal.returns-in_err-out-clause-packet
returns-in_err-out-clause-packet g c = accounting_is_packet c.args.request.now c.requires.sealed
    c.accounting_answer_len-size.ensures.packet

pub returns-clause-packet : goal.returns-clause-packet
returns-clause-packet g c = accounting_is_packet c.args.request.now c.requires.sealed
    c.accounting_answer_len-size.ensures.packet

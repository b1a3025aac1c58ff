use Rattle.std.proofs.Common.{arith}
use Rattle.roam_admission.proofs.AccountingLemmas.{accounting_no_longer, length_accounting}
use Rattle.roam_admission.proofs.answering.accounting_answer_len.Goals as goal

-- the sum of its parts
pub returns-clause-size : goal.returns-clause-size
returns-clause-size c =
    omega (
      arith,
      length_accounting c.args.request.now,
      c.answering_seal_len.ensures,
      c.proxy_states_len.ensures.all,
    )

-- which are no longer than the request's
pub returns-clause-short : goal.returns-clause-short
returns-clause-short c =
    let limit = c.proxy_states_len.ensures.packet.size in
    omega (
      arith,
      limit,
      length_accounting c.args.request.now,
      accounting_no_longer c.args.request.now c.requires.sealed,
      c.answering_seal_len.ensures,
      c.proxy_states_len.ensures.all,
    )

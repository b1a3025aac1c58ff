use Rattle.std.proofs.Common.{◌≡◌, false}
use Rattle.roam_history.specs.Receipts.{PlainReceipt}
use Rattle.roam_history.specs.Shown.{shown_receipt}
use Rattle.roam_history.specs.Audit.{are_of_one_call}
use Rattle.roam_history.proofs.ListLemmas.{All-map, All-from_map}
use Rattle.roam_history.proofs.report.Report.is_right.Goals as goal

-- it stands, so what is left to tell is whether it is alone
pub returns-then-has : goal.returns-then-has
returns-then-has g c =
    let receipt = shown_receipt c.args.receipt.now in
    let before = c.args.before.now in
    let apart = λ (earlier : PlainReceipt). are_of_one_call earlier receipt ≡ false in (
      λ alone. record {
        stands = c.has.ensures.0 c.if-has.true;
        alone = All-map shown_receipt apart before (c.is_alone.ensures.0 alone);
      },
      λ right. c.is_alone.ensures.1 (All-from_map shown_receipt apart before right.alone),
    )

pub returns-else-has : goal.returns-else-has
returns-else-has g c = (λ no. absurd (cc), λ right. c.has.ensures.1 right.stands)

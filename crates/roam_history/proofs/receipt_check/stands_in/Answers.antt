-- The one begins the other, so the number tells.
use Rattle.std.proofs.Common.{◌<◌, IsTrue, nat_lt, length, refl, arith}
use Rattle.std.proofs.lemmas.Bool.Decides.{nat_tests}
use Rattle.roam_history.specs.Entries.{steps_in}
use Rattle.roam_history.specs.Shown.{shown_step}
use Rattle.roam_history.proofs.PrefixLemmas.{is_below, stands_longer, stands_shorter}
use Rattle.roam_history.proofs.receipt_check.stands_in.Goals as goal

pub returns-then-begins : goal.returns-then-begins
returns-then-begins g c =
    let receipt = c.args.receipt.now in
    let whole = c.args.whole.now in (
      λ yes. stands_longer receipt.front.entries whole.entries receipt.number (shown_step receipt)
          (c.begins.ensures.begins.0 c.if-begins.true) receipt.stands,
      λ at. refl,
    )

pub returns : goal.returns
returns g c =
    let receipt = c.args.receipt.now in
    let whole = c.args.whole.now in
    let pre = c.begins.ensures.other c.if-begins.false in (
      λ yes. (
          let below : receipt.number < length (steps_in whole.entries) = grind (arith, nat_tests, yes, c.len.ensures) in
          stands_shorter receipt.front.entries whole.entries receipt.number (shown_step receipt) pre below
          receipt.stands),
      λ at. (
          let below = is_below whole.entries receipt.number (shown_step receipt) at in
          let yes : IsTrue (nat_lt receipt.number c.len.result) = grind (arith, nat_tests, below, c.len.ensures) in
          yes),
    )

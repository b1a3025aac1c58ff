-- None of the receipts before is of this one's call: the test of each.
use Rattle.std.proofs.Common.{◌≡◌, ◌∙◌, Bool, true, false, not, sym, ap, refl, rules, tests}
use Rattle.std.specs.List.{list_all}
use Rattle.std.proofs.lemmas.Iterator.{YieldsList-from_slice}
use Rattle.std.proofs.lemmas.Iterator.Search.{all_from_yields_List}
use Rattle.std.proofs.lemmas.List.Sums.{AllPass-from_list_all, list_all-from_AllPass}
use Rattle.roam_history.specs.Audit.{are_of_one_call}
use Rattle.roam_history.specs.Shown.{shown_receipt}
use Rattle.roam_history.specs.declared.receipt.Receipt.{Receipt}
use Rattle.roam_history.proofs.receipt_check.is_alone.Goals as goal

isnt : (b : Bool) → not b ≡ true → b ≡ false
isnt true is = absurd (cc)
isnt false is = refl

pub returns : goal.returns
returns g c =
    let test : Receipt g.row.A.Denot g.row.N.Denot g.N.Opened → Bool =
    λ earlier. not (are_of_one_call (shown_receipt earlier) (shown_receipt c.args.receipt.now)) in
    let all : c.all.result ≡ list_all test c.args.before.now =
    all_from_yields_List test _ _ c.all.result c.all.ensures.ran (YieldsList-from_slice c.args.before.now cc)
    (λ x b q k. search (rules, tests)) in (
      λ yes k d lt. isnt _ (AllPass-from_list_all test c.args.before.now (sym all ∙ yes) k d lt),
      λ apart. all ∙ list_all-from_AllPass test c.args.before.now (λ k d lt. ap not (apart k d lt)),
    )

use Rattle.std.proofs.Common.{◌≡◌, ◌+◌, ◌-◌, ◌^◌, ℕ, length, min, take, ap, sym, ◌∙◌}
use Rattle.std.proofs.lemmas.List.{take_all}
use Rattle.std.proofs.lemmas.List.Sums.{sum_by_more}
use Rattle.roam_shard.proofs.OctetLemmas.{capped}
use Rattle.roam_history.specs.Entries.{steps_in}
use Rattle.roam_history.specs.StepCounts.{count_of_steps}
use Rattle.roam_history.proofs.report.count_in.Goals as goal

pub returns : goal.returns
returns g c =
    let fronts = c.args.fronts.now in
    c.loop-front.invariant
    ∙ ap (λ l. min (count_of_steps l) (2 ^ 64 - 1)) (take_all c.loop-front.front-index fronts c.loop-front-test.false)

-- one shard more
pub loop-front-preserved : goal.loop-front-preserved
loop-front-preserved g c =
    let fronts = c.args.fronts.now in
    let i = c.loop-front.front-index in
    let m = 2 ^ 64 - 1 in
    let sum = count_of_steps (take i fronts) in
    let more = sum_by_more (λ front. length (steps_in front.entries)) fronts i c.front-item.result
    c.loop-front-test.true in
    let one : c.len.result ≡ length (steps_in c.front-item.result.entries) = c.len.ensures in
    let item = ap (λ front. length (steps_in front.entries)) c.front-item.is in
    c.saturating_add-count.ensures
    ∙ (ap (λ (n : ℕ). min (n + c.len.result) m) c.loop-front.invariant
    ∙ (capped sum c.len.result m
    ∙ ap (λ (n : ℕ). min n m) (ap (λ (n : ℕ). sum + n) (one ∙ item) ∙ sym more)))

use Rattle.std.proofs.Common.{ℕ, ◌+◌, ◌*◌, ◌<◌, ◌∙◌, ap, arith, length, sym}
use Rattle.std.proofs.lemmas.Nat.{div-add-mod', div_below}
use Rattle.roam_realm.specs.RealmConfig.{server_link_count}
use Rattle.roam_migrate.proofs.lanes.link_at.Goals as goal

-- the place of its end is one of the realm's
pub link_to_end-requires-clause-end : goal.link_to_end-requires-clause-end
link_to_end-requires-clause-end c =
    let settings = c.args.settings.now in
    let ends = server_link_count settings + length settings.peers in
    let outs = c.out_count-outs.result in
    let some : 0 < outs = omega (arith, c.out_count-outs.ensures.some) in
    let product = ap (λ (k : ℕ). ends * k) c.out_count-outs.ensures.count in
    let below : c.args.place < ends * outs = omega (arith, c.requires, product) in
    div_below c.args.place outs ends some below

-- end and `out` make the place
pub returns-clause-place : goal.returns-clause-place
returns-clause-place c =
    let count = sym c.out_count-outs.ensures.count in
    (λ i. c.link_to_end.ensures.place i * count i + c.link_to_end.ensures.out i)
    ∙ div-add-mod' c.args.place c.out_count-outs.result

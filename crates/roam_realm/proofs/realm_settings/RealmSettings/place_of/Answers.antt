use Rattle.std.proofs.Common.{ℕ, ◌+◌, ◌*◌, ◌<◌, ap, arith, length}
use Rattle.std.proofs.lemmas.Nat.{mul-add-lt}
use Rattle.roam_realm.specs.RealmConfig.{server_link_count}
use Rattle.roam_realm.proofs.realm_settings.RealmSettings.place_of.Goals as goal

-- the place of an end, and behind it that of an `out`
pub returns-clause-below : goal.returns-clause-below
returns-clause-below c =
    let settings = c.args.self.now in
    let end = c.end_place.result in
    let outs = length settings.realm.out in
    let ends = server_link_count settings + length settings.peers in
    let product = ap (λ (k : ℕ). end * k) c.out_count.ensures.count in
    let way : c.from.result < outs = omega (arith, c.from.ensures, c.out_of.ensures.below c.requires) in
    let within = mul-add-lt end outs c.from.result ends c.end_place.ensures.below way in
    omega (arith, product, within)

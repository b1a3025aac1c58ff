use Rattle.std.proofs.Common.{◌≡◌, ◌-◌, ◌/◌, ◌<◌, ◌^◌, ap, ◌∙◌}
use Rattle.roam_address.specs.Addresses.{ip_of}
use Rattle.roam_address.specs.Bits.{width, number}
use Rattle.roam_address.proofs.BitLemmas.{first_bits, all_above}
use Rattle.roam_address.proofs.leading.Leading.of.Goals as goal

-- its number without the bits behind the leftmost ones
pub returns : goal.returns
returns c =
    let ip = ip_of c.args.address in
    let l = c.args.length in
    let below : number ip < 2 ^ width ip = rw (← c.number.ensures.value) c.number.ensures.below in
    let bits : c.above.result ≡ first_bits (width ip) (number ip) l =
    c.above.ensures ∙ ap (λ w. c.number.result / 2 ^ (w - l)) c.width.ensures.value
    ∙ ap (λ n. n / 2 ^ (width ip - l)) c.number.ensures.value ∙ all_above (width ip) (number ip) l c.requires below in
    λ i. record { is_ipv6 = c.is_ipv6.ensures i; length = l; bits = bits i }

use Rattle.std.proofs.Common.{Some, None, arith, sym, ap, ◌∙◌}
use Rattle.roam_address.specs.Decimals.{decimal_in}
use Rattle.roam_address.proofs.PrefixLemmas.{reads_no_slash, reads_no_network, reads_no_length, reads_made}
use Rattle.roam_address.proofs.SplitLemmas.{last_cut}
use Rattle.roam_address.proofs.prefix.Prefix.read_part.Goals as goal

-- a network and a number of bits behind the last slash (47)
pub returns-in-Some-decimal : goal.returns-in-Some-decimal
returns-in-Some-decimal c =
    let text = c.args.text.now in
    let cut = last_cut 47 text (Some (c.in-Some.address, c.in-Some.digits)) c.in-Some.ensures.cases (omega arith) in
    let number = ap (λ w. decimal_in 0 w c.in-Some.digits.now) (sym c.width.ensures.value)
    ∙ sym c.in-Some-decimal.ensures.value in
    reads_made text c.requires c.in-Some.address.now c.in-Some.digits.now cut.0 cut.1 c.in-Some-from_text.network
    c.in-Some-from_text.ensures.states c.in-Some-decimal.length c.new.result number
    (omega (arith, c.in-Some-decimal.ensures.bounds.1, c.width.ensures.value)) c.new.ensures

-- no number of bits
pub returns-in-None-decimal : goal.returns-in-None-decimal
returns-in-None-decimal c =
    let text = c.args.text.now in
    let cut = last_cut 47 text (Some (c.in-Some.address, c.in-Some.digits)) c.in-Some.ensures.cases (omega arith) in
    let number = ap (λ w. decimal_in 0 w c.in-Some.digits.now) (sym c.width.ensures.value)
    ∙ sym c.in-None-decimal.ensures.value in
    reads_no_length text c.requires c.in-Some.address.now c.in-Some.digits.now cut.0 cut.1 c.in-Some-from_text.network
    c.in-Some-from_text.ensures.states number

-- no network
pub returns-in-None-from_text : goal.returns-in-None-from_text
returns-in-None-from_text c =
    let text = c.args.text.now in
    let cut = last_cut 47 text (Some (c.in-Some.address, c.in-Some.digits)) c.in-Some.ensures.cases (omega arith) in
    reads_no_network text c.requires c.in-Some.address.now c.in-Some.digits.now cut.0 cut.1
    c.in-None-from_text.ensures.states

-- no slash
pub returns-in-None : goal.returns-in-None
returns-in-None c =
    reads_no_slash c.args.text.now c.requires
    (last_cut 47 c.args.text.now None c.in-None.ensures.cases (omega arith))

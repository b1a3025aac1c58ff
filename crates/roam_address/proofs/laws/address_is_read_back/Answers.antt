use Rattle.roam_address.specs.Addresses.{IsAddressText, address_text}
use Rattle.roam_address.proofs.AddressLemmas.{read_back, one_address, printed_states}
use Rattle.roam_address.proofs.laws.address_is_read_back.Goals as goal

pub returns : goal.returns
returns c =
    let a = c.args.address in
    let states = printed_states a c.show_ranges.ensures c.requires.unmapped in
    read_back IsAddressText (address_text a) a c.args.read
    (λ x is. one_address (address_text a) x a is states) states c.requires.read

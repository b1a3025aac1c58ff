use Rattle.roam_address.specs.Addresses.{ip_of, IsRanged}
use Rattle.roam_address.specs.Prefixes.{network_of, prefix_text}
use Rattle.roam_address.proofs.AddressLemmas.{printed_states}
use Rattle.roam_address.proofs.PrefixLemmas.{prefix_printed, found_back}
use Rattle.roam_address.proofs.laws.prefix_is_read_back.Goals as goal

pub returns : goal.returns
returns c =
    let p = c.args.prefix in
    let ranged : IsRanged (ip_of (network_of p)) = rw (← c.network.ensures) c.show_ranges.ensures in
    let states = prefix_printed p (printed_states (network_of p) ranged c.requires.unmapped) in
    found_back p (prefix_text p) c.args.read states c.requires.read

use Rattle.roam_address.proofs.AddressLemmas.{equal_texts}
use Rattle.roam_address.proofs.laws.equal_texts_are_of_equal_addresses.Goals as goal

pub returns : goal.returns
returns c = equal_texts c.args.one c.args.other c.show_ranges.ensures c.show_ranges-2.ensures c.requires

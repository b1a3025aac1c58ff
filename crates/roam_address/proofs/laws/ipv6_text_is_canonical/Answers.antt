use Rattle.roam_address.specs.Addresses.{ip_of}
use Rattle.roam_address.proofs.CanonicalLemmas.{canonical_ip}
use Rattle.roam_address.proofs.laws.ipv6_text_is_canonical.Goals as goal

pub returns : goal.returns
returns c = canonical_ip (ip_of c.args.address)

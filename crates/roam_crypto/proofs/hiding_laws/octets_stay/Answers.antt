use Rattle.roam_crypto.proofs.OctetLemmas.{AreOctets-hidden_anew, AreOctets-attribute_anew}
use Rattle.roam_crypto.proofs.hiding_laws.octets_stay.Goals as goal

pub returns : goal.returns
returns c = record { hidden = AreOctets-hidden_anew; attribute = AreOctets-attribute_anew }

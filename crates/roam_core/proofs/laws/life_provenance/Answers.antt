use Rattle.roam_core.proofs.LifeOriginLemmas.{each_packet_has_origin_from, entries_keep_origin}
use Rattle.roam_core.proofs.laws.life_provenance.Goals as goal

pub returns-clause-entries : goal.returns-clause-entries
returns-clause-entries c = entries_keep_origin

pub returns-clause-packets : goal.returns-clause-packets
returns-clause-packets c = each_packet_has_origin_from

use Rattle.roam_ids.proofs.LaneLemmas.{place_at-put_at}
use Rattle.roam_ids.proofs.laws.put_changes_one.Goals as goal

pub returns : goal.returns
returns c = place_at-put_at

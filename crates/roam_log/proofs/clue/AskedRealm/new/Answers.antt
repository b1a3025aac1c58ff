use Rattle.roam_log.proofs.ValueLemmas.{kept}
use Rattle.roam_log.proofs.clue.AskedRealm.new.Goals as goal

-- what is copied to the front, and what stays behind it
pub returns : goal.returns
returns c =
    kept 47 c.args.name.now c.copy_from_slice.new.self _ c.min-len.result c.min-len.ensures
    c.copy_from_slice.ensures.after

use Rattle.std.proofs.Common.{map, ap}
use Rattle.roam_conf.specs.Duplicates.{nas_texts}
use Rattle.roam_conf.specs.Index.{entry_shown}
use Rattle.roam_conf.specs.Parts.{shown_peer}
use Rattle.roam_conf.proofs.TargetLemmas.{text_twice}
use Rattle.roam_conf.proofs.nas_texts.has_duplicate_nas_text.Goals as goal

-- one is there twice just where not all are new
pub returns : goal.returns
returns c =
    text_twice (nas_texts (map shown_peer c.args.peers.now)) _ c.in_ok-all_new.all_new
    (ap (map entry_shown) c.new-index.ensures.empty) c.in_ok-all_new.ensures

use Rattle.std.proofs.Common.{map, ap}
use Rattle.roam_conf.specs.Index.{entry_shown}
use Rattle.roam_conf.specs.Parts.{shown_realm}
use Rattle.roam_conf.specs.Patterns.{shown_pattern}
use Rattle.roam_conf.proofs.NameLemmas.{found_twice}
use Rattle.roam_conf.proofs.indexes.has_duplicate_realm.Goals as goal

-- one is there twice just where not all are new
pub returns : goal.returns
returns c =
    found_twice (map shown_realm c.args.realms.now) (map shown_pattern c.args.reject.now) _ c.in_ok-all_new.all_new
    (ap (map entry_shown) c.new-names.ensures.empty) c.in_ok-all_new.ensures.new

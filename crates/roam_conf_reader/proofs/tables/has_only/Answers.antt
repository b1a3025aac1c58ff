use Rattle.roam_conf_reader.proofs.ArrayLemmas.{all_known-keys}
use Rattle.roam_conf_reader.proofs.tables.has_only.Goals as goal

pub loop-key-init : goal.loop-key-init
loop-key-init c = (
  tt,
  tt,
  rw (
    c.into_iter-key-iterator.ensures.into_iter_gives,
    c.keys-key-items.ensures.rest,
  ) (all_known-keys _ _ c.args.table.now.entries),
)

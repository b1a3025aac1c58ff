-- A shard stands at the end of an empty history.
use Rattle.roam_hub.proofs.KeptLemmas.{kept_new}
use Rattle.roam_hub.proofs.locked_trace.LockedTrace.new.Goals as goal

pub invariant_of-result : goal.invariant_of-result
invariant_of-result g c = (
  kept_new g.N.Opened.opening c.args.traced c.args.front c.requires.shard c.requires.config c.requires.states
      c.requires.gone c.requires.events c.requires.limit c.requires.empty,
  c.requires.head,
)

use Rattle.std.proofs.Common.{◌≡◌, length}
use Rattle.roam_core.proofs.LettingGoLemmas.{IsLettingGo}
use Rattle.roam_shard.proofs.shard.Shard.let_go.Given as goal

abbrev pub invariant-loop-realm : goal.invariant-loop-realm
invariant-loop-realm g l = record {
  opening : l.self.opening ≡ l.fn.self.opening;
  count : length l.self.states ≡ length l.fn.self.states;
  going : IsLettingGo l.fn.self.opening.config l.now l.fn.self.opening.shard l.fn.self.states
      l.self.states l.realm;
}

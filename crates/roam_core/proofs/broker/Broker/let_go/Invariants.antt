use Rattle.std.proofs.Common.{◌≡◌, length}
use Rattle.roam_core.proofs.LettingGoLemmas.{IsLettingGo}
use Rattle.roam_core.proofs.broker.Broker.let_go.Given as goal

abbrev pub invariant-loop-realm : goal.invariant-loop-realm
invariant-loop-realm g l = record {
  config : l.self.config ≡ l.fn.self.config;
  count : length l.self.states ≡ length l.fn.self.states;
  going : IsLettingGo l.fn.self.config l.now l.shard l.fn.self.states l.self.states l.realm;
}

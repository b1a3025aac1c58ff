use Rattle.roam_conf.specs.Shown.{shown}
use Rattle.roam_core.proofs.BookLemmas.{AreFresh}
use Rattle.roam_core.proofs.broker.Broker.new.Given as goal

abbrev pub invariant-loop-realm : goal.invariant-loop-realm
invariant-loop-realm g l = AreFresh (shown l.config) l.realm l.books.items

use Rattle.std.proofs.Common.{subst}
use Rattle.roam_realm.specs.RealmConfig.{RealmConfig}
use Rattle.roam_rules.specs.RealmTurn.{entries}
use Rattle.roam_realm.specs.Sound.{IsSound}
use Rattle.roam_rules.proofs.ClearLemmas.{IsCleared, clear-turn, clear-plan}
use Rattle.roam_rules.proofs.realm_broker.RealmBroker.make_way.Goals as goal

-- the entries and numbers before, between, and after
clears : (g : _) (c : goal.After-take_away_done g)
    → IsCleared c.args.self.now.settings.now (entries g.E.Entries c.args.self.now)
    (entries g.E.Entries c.take_away_replaced-replaced.new.self) (entries g.E.Entries c.take_away_done.new.self)
    c.args.self.now.numbers.now c.take_away_replaced-replaced.new.self.numbers.now
    c.take_away_done.new.self.numbers.now c.args.plan
clears g c =
    let mid = c.take_away_replaced-replaced.new.self in
    let kept = c.take_away_replaced-replaced.ensures.keeps in
    record {
      replaced = c.take_away_replaced-replaced.ensures.entries;
      done = c.take_away_done.ensures.entries;
      slots = c.take_away_replaced-replaced.ensures.numbers;
      same = c.take_away_done.ensures.numbers;
      sound = subst (λ (k : RealmConfig). IsSound k (entries g.E.Entries mid) mid.numbers.now)
          kept.loans.settings kept.realm.sound;
      list = kept.realm.list;
    }

pub returns-clause-plan : goal.returns-clause-plan
returns-clause-plan g c = clear-plan _ _ _ _ _ _ _ c.args.plan (clears g c)

pub returns-clause-turn : goal.returns-clause-turn
returns-clause-turn g c = clear-turn _ _ _ _ _ _ _ c.args.plan (clears g c)

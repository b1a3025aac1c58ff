use Rattle.std.proofs.Common.{◌∙◌, ℕ, List, ap}
use Rattle.roam_pending.specs.PlainEntry.{PlainEntry}
use Rattle.roam_realm.specs.RealmConfig.{RealmConfig}
use Rattle.roam_rules.proofs.realm_broker.RealmBroker.admit_new.Goals as goal

-- what taking memory keeps, and what the admission does
pub returns-clause-keeps : goal.returns-clause-keeps
returns-clause-keeps g c =
    let first = c.make_lane.ensures.keeps in
    let last = c.admit_reserved.ensures.keeps in
    record {
      realm = last.realm;
      loans = record {
        settings = last.loans.settings ∙ first.loans.settings;
        same_entries = last.loans.same_entries ∙ first.loans.same_entries;
        same_numbers = last.loans.same_numbers ∙ first.loans.same_numbers;
        keeps = last.loans.keeps ∙ c.reserve.ensures.keeps ∙ first.loans.keeps;
      };
      others = λ r other.
          last.others r (λ is. other (is ∙ ap (λ (k : RealmConfig). k.index) first.loans.settings))
          ∙ ap (λ (of : ℕ → List PlainEntry). of r) c.reserve.ensures.entries ∙ first.others r other;
    }

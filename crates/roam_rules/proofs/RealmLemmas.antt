-- What the rules of a realm keep, one after the other.
use Rattle.std.proofs.Common.{ap, ◌∙◌, refl}
use Rattle.roam_pending.specs.declared.entries.Entries.{Ghosts}
use Rattle.roam_rules.specs.declared.realm_broker.RealmBroker.{RealmBroker}
use Rattle.roam_realm.specs.RealmConfig.{RealmConfig}
use Rattle.roam_rules.specs.RealmTurn.{IsRealm, Keeps, KeepsLoans}

pub loans-none : {A E : Type 0} (g : Ghosts E A) (r : RealmBroker A E) → KeepsLoans g r r
loans-none g r = record { settings = refl; same_entries = refl; same_numbers = refl; keeps = refl }

pub keeps-none : {A E : Type 0} (g : Ghosts E A) (r : RealmBroker A E) → IsRealm g r → Keeps g r r
keeps-none g r here = record { realm = here; loans = loans-none g r; others = λ x ne. refl }

pub keeps-both :
    {A E : Type 0} (g : Ghosts E A) (a b d : RealmBroker A E) → Keeps g a b → Keeps g b d → Keeps g a d
keeps-both g a b d h k = record {
  realm = k.realm;
  loans = record {
    settings = k.loans.settings ∙ h.loans.settings;
    same_entries = k.loans.same_entries ∙ h.loans.same_entries;
    same_numbers = k.loans.same_numbers ∙ h.loans.same_numbers;
    keeps = k.loans.keeps ∙ h.loans.keeps;
  };
  others = λ r ne.
      k.others r (λ at. ne (at ∙ ap (λ (c : RealmConfig). c.index) h.loans.settings)) ∙ h.others r ne;
}

-- A way that is cleared: what counts as gone and what makes way are gone.
use Rattle.std.proofs.Common.{◌≡◌, ℕ, is_some, List, refl, ap, ◌∙◌}
use Rattle.roam_pending.specs.PlainEntry.{PlainEntry, PlainRequest}
use Rattle.roam_pending.specs.EntryList.{IsEntryList, besides}
use Rattle.roam_sessions.specs.ShownSessions.{Ledger}
use Rattle.roam_realm.specs.declared.realm_numbers.RealmNumbers.{RealmNumbers}
use Rattle.roam_rules.specs.declared.rules.admit_plan.AdmitPlan.{AdmitPlan}
use Rattle.roam_rules.specs.Private.NewEntry.{IsAdmitPlan, MakesWay, admits, cleared, left_by, once_replaced}
use Rattle.roam_realm.specs.RealmConfig.{RealmConfig, IsLink}
use Rattle.roam_realm.specs.Conversing.{rests_chosen}
use Rattle.roam_realm.specs.RealmState.{next_toward, with_rests}
use Rattle.roam_realm.specs.declared.rest.Rest.{Rest}
use Rattle.roam_realm.specs.Sound.{IsSameButSlots, IsSound, cursors_of, state_of}
use Rattle.roam_rules.proofs.AdmissionLemmas.{admit-same, client-besides, next-besides, target-same}

-- the entries and numbers before, between, and once those that had to go are gone
pub record IsCleared {A : Type 0} (c : RealmConfig) (es mid fs : List PlainEntry)
    (n m k : RealmNumbers A) (plan : AdmitPlan) : Type 0 where
  pub replaced : mid ≡ once_replaced plan.replaced es
  pub done : fs ≡ besides plan.done mid
  pub slots : IsSameButSlots n m
  pub same : k ≡ m
  pub sound : IsSound c mid m
  pub list : IsEntryList mid

plan-next :
    {A : Type 0} (c : RealmConfig) (es mid fs : List PlainEntry) (n m k : RealmNumbers A) (plan : AdmitPlan)
    → IsCleared c es mid fs n m k plan → MakesWay plan.done (once_replaced plan.replaced es) → IsLink c plan.link
    → next_toward c (cursors_of k.lanes.items) fs plan.link
    ≡ next_toward c (cursors_of n.lanes.items) (once_replaced plan.replaced es) plan.link
plan-next c es mid fs n m k plan h makes link =
    let made : MakesWay plan.done mid = rw h.replaced makes in
    rw (h.same, h.done) (next-besides c mid m plan.done plan.link h.sound h.list made link
    ∙ (rw (h.replaced, h.slots.cursors) refl))

pub clear-plan :
    {A : Type 0} (c : RealmConfig) (es mid fs : List PlainEntry) (n m k : RealmNumbers A) (plan : AdmitPlan)
    → IsCleared c es mid fs n m k plan → (q : PlainRequest) → IsAdmitPlan c (state_of es n) q plan
    → IsAdmitPlan c (state_of fs k) q (cleared plan)
clear-plan c es mid fs n m k plan h q is = record {
  request = is.request;
  ticket = rw (h.same, h.slots.ticket) is.ticket;
  replaced = tt;
  key = rw (h.done, h.replaced) (client-besides q.key plan.done (once_replaced plan.replaced es) is.key);
  done = tt;
  link = is.link;
  free = ap is_some (plan-next c es mid fs n m k plan h is.done is.link) ∙ is.free;
}

pub clear-turn :
    {A : Type 0} (c : RealmConfig) (es mid fs : List PlainEntry) (n m k : RealmNumbers A) (plan : AdmitPlan)
    → IsCleared c es mid fs n m k plan → (now : ℕ) (q : PlainRequest) → IsAdmitPlan c (state_of es n) q plan
    → admits c now (state_of fs k) q (cleared plan) ≡ admits c now (state_of es n) q plan
clear-turn c es mid fs n m k plan h now q is =
    let old = cursors_of n.lanes.items in
    let new = cursors_of k.lanes.items in
    let target = target-same c old new (once_replaced plan.replaced es) fs plan.link
    (plan-next c es mid fs n m k plan h is.done is.link) in
    let rests : k.rests.items ≡ n.rests.items = rw h.same h.slots.rests in
    let chosen : List Rest → List Rest = λ r. rests_chosen c now r plan.bound plan.link in
    admit-same c now q (with_rests (state_of fs k) (chosen k.rests.items))
    (with_rests (state_of es n) (chosen n.rests.items)) fs (left_by plan es) _ _
    (rw h.same h.slots.ticket) (rw h.same h.slots.cursors) (rw h.same h.slots.stream_position)
    (rw h.same (ap (λ (l : Ledger). l.sessions) h.slots.sessions)) (ap chosen rests)
    (h.done ∙ ap (λ (xs : List PlainEntry). besides plan.done xs) h.replaced) target

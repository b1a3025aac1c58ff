-- A run so far, with one event more, and at its end.
use Rattle.std.proofs.Common.{◌≡◌, ℕ, ◌+◌, ◌<◌, ◌≤◌, Bool, List, [], ◌∷◌, ◌++◌, length, take, get_or, refl, sym, ap, subst, ◌∙◌, append_assoc, arith}
use Rattle.std.specs.List.{AllByRecursion}
use Rattle.std.proofs.lemmas.List.{append-nil, take_more, take_all, length-take}
use Rattle.roam_conf.specs.Config.{ConfigView}
use Rattle.roam_admission.specs.Admission.{PlainOut}
use Rattle.roam_realm.specs.RealmState.{RealmState}
use Rattle.roam_core.specs.Events.{PlainEvent, kept, local_rejects}
use Rattle.roam_core.specs.Isolation.{IsIsolated, IsIsolatedFromStart, packets_for_none, HasRealm}
use Rattle.roam_core.specs.ManyRealms.{packets_in_turn, states_after, answer_to, answers_to}
use Rattle.roam_realm.specs.declared.start.Start.{Start}
use Rattle.roam_core.specs.Openings.{openings}
use Rattle.roam_core.specs.OwnLosses.{LostForItself}
use Rattle.roam_core.specs.Provenance.{HasProvenance}
use Rattle.roam_core.specs.Runs.{ArePlaces, EachWantsMemory, StandsAfterSome, WereGiven}
use Rattle.roam_core.proofs.KeptLemmas.{places-more, places-append, kept-done, kept-lost}
use Rattle.roam_core.proofs.OwnLossLemmas.{lost-for_itself}
use Rattle.roam_core.proofs.ProvenanceLemmas.{has_provenance}
use Rattle.roam_core.proofs.IsolationLemmas.{answers-length, from_start, isolated, rejects_alone, each_has_realm}

states-append : (config : ConfigView) (states : List RealmState) (es : List PlainEvent) (e : PlainEvent) →
    (answers_to config states (es ++ e ∷ [])).states
    ≡ states_after (answers_to config states es).states (answer_to config (answers_to config states es).states e)
states-append config states [] e = refl
states-append config states (x ∷ es) e =
    states-append config (states_after states (answer_to config states x)) es e

packets-append : (config : ConfigView) (states : List RealmState) (es : List PlainEvent) (e : PlainEvent) →
    (answers_to config states (es ++ e ∷ [])).packets ≡ (answers_to config states es).packets
    ++ packets_in_turn (answer_to config (answers_to config states es).states e)
packets-append config states [] e = append-nil (packets_in_turn (answer_to config states e))
packets-append config states (x ∷ es) e =
    let first : List PlainOut = packets_in_turn (answer_to config states x) in
    let next : List RealmState = states_after states (answer_to config states x) in
    ap (λ (l : List PlainOut). first ++ l) (packets-append config next es e)
    ∙ sym (append_assoc first (answers_to config next es).packets
    (packets_in_turn (answer_to config (answers_to config next es).states e)))

-- a broker with a state for each realm, and a shard
pub record IsWhole (config : ConfigView) (states : List RealmState) : Type 0 where
  pub each_realm : length states ≡ length config.realms
  pub some_shard : 1 ≤ config.shards

-- what was sent and lost after n events, and how the broker then stands
pub record HasRun (config : ConfigView) (first : List RealmState) (events : List PlainEvent) (n : ℕ) (lost : List ℕ)
    (packets : List PlainOut) (now : ConfigView) (states : List RealmState) : Type 0 where
  pub places : ArePlaces n lost
  pub packets_are : packets ≡ (answers_to config first (kept lost (take n events))).packets
  pub states_are : states ≡ (answers_to config first (kept lost (take n events))).states
  pub config_is : now ≡ config
  pub whole : 0 < n → IsWhole config first

still_whole : (config : ConfigView) (first : List RealmState) (events : List PlainEvent) (n : ℕ) (lost : List ℕ)
    (packets : List PlainOut) (now : ConfigView) (states : List RealmState) →
    HasRun config first events n lost packets now states → length states ≡ length now.realms → 1 ≤ now.shards →
    IsWhole config first
still_whole config first events n lost packets now states run whole some = record {
  each_realm = sym (answers-length config first (kept lost (take n events)))
      ∙ ap (λ (l : List RealmState). length l) (sym run.states_are)
      ∙ whole ∙ ap (λ (c : ConfigView). length c.realms) run.config_is;
  some_shard = subst (λ (c : ConfigView). 1 ≤ c.shards) run.config_is some;
}

-- one event more, which is answered
pub answered : (config : ConfigView) (first : List RealmState) (events : List PlainEvent) (n : ℕ) (lost : List ℕ)
    (packets more : List PlainOut) (now next : ConfigView) (states new : List RealmState) (e d : PlainEvent)
    → n < length events → get_or events n d ≡ e → HasRun config first events n lost packets now states
    → length states ≡ length now.realms → 1 ≤ now.shards → next ≡ now
    → more ≡ packets_in_turn (answer_to now states e) → new ≡ states_after states (answer_to now states e)
    → HasRun config first events (n + 1) lost (packets ++ more) next new
answered config first events n lost packets more now next states new e d within at run whole some stays sent changed =
    let front : take (n + 1) events ≡ take n events ++ e ∷ [] = take_more events n d within ∙ rw at refl in
    let kept_is : kept lost (take (n + 1) events) ≡ kept lost (take n events) ++ e ∷ [] =
    rw front (kept-done n lost (take n events) e (omega (arith, length-take n events)) run.places) in
    let before : List PlainEvent = kept lost (take n events) in
    record {
      places = places-more n lost run.places;
      packets_are = rw (
        kept_is,
        packets-append config first before e,
        sent,
        run.config_is,
        ← run.states_are,
        ← run.packets_are,
      ) refl;
      states_are = rw (kept_is, states-append config first before e, changed, run.config_is, ← run.states_are) refl;
      config_is = stays ∙ run.config_is;
      whole = λ _. still_whole config first events n lost packets now states run whole some;
    }

-- one that is lost
pub lost_one : (config : ConfigView) (first : List RealmState) (events : List PlainEvent) (n : ℕ) (lost : List ℕ)
    (packets : List PlainOut) (now next : ConfigView) (states new : List RealmState) (e d : PlainEvent)
    → n < length events → get_or events n d ≡ e → HasRun config first events n lost packets now states
    → length states ≡ length now.realms → 1 ≤ now.shards → next ≡ now → new ≡ states
    → HasRun config first events (n + 1) (lost ++ n ∷ []) packets next new
lost_one config first events n lost packets now next states new e d within at run whole some stays same =
    let front : take (n + 1) events ≡ take n events ++ e ∷ [] = take_more events n d within ∙ rw at refl in
    let kept_is : kept (lost ++ n ∷ []) (take (n + 1) events) ≡ kept lost (take n events) =
    rw front (kept-lost n lost (take n events) e (omega (arith, length-take n events))) in
    record {
      places = places-append n lost run.places;
      packets_are = rw kept_is run.packets_are;
      states_are = rw kept_is (same ∙ run.states_are);
      config_is = stays ∙ run.config_is;
      whole = λ _. still_whole config first events n lost packets now states run whole some;
    }

-- at the end
pub record HasRunAll (config : ConfigView) (first : List RealmState) (events : List PlainEvent) (lost : List ℕ)
    (packets : List PlainOut) (states : List RealmState) : Type 0 where
  pub places : ArePlaces (length events) lost
  pub isolated : IsIsolated config first (kept lost events) packets
  pub own_losses : LostForItself config first lost events packets
  pub provenance : (starts : List Start) → first ≡ openings config starts →
      HasProvenance config starts (kept lost events) packets
  pub from_start : (starts : List Start) → first ≡ openings config starts →
      IsIsolatedFromStart config starts (kept lost events) packets
  pub all_sent : packets ≡ (answers_to config first (kept lost events)).packets
  pub all_stand : states ≡ (answers_to config first (kept lost events)).states
  pub rejects : packets_for_none packets ≡ local_rejects config (kept lost events)
  pub realms : AllByRecursion (HasRealm (length config.realms)) packets

isolated_at_end : (config : ConfigView) (first : List RealmState) (events : List PlainEvent) (lost : List ℕ) →
    (0 < length events → IsWhole config first) →
    IsIsolated config first (kept lost events) (answers_to config first (kept lost events)).packets
isolated_at_end config first [] lost whole = λ realm within. refl
isolated_at_end config first (e ∷ events) lost whole =
    isolated config first (kept lost (e ∷ events)) (whole (omega arith)).some_shard

realms_at_end : (config : ConfigView) (first : List RealmState) (events : List PlainEvent) (lost : List ℕ) →
    (0 < length events → IsWhole config first) →
    AllByRecursion (HasRealm (length config.realms)) (answers_to config first (kept lost events)).packets
realms_at_end config first [] lost whole = tt
realms_at_end config first (e ∷ events) lost whole =
    each_has_realm config first (kept lost (e ∷ events)) (whole (omega arith)).each_realm

pub has_run_all : (config : ConfigView) (first : List RealmState) (events : List PlainEvent) (n : ℕ) (lost : List ℕ)
    (packets : List PlainOut) (now : ConfigView) (states : List RealmState) → n ≡ length events →
    HasRun config first events n lost packets now states → HasRunAll config first events lost packets states
has_run_all config first events n lost packets now states is run =
    let all : take n events ≡ events = take_all n events (omega (arith, is)) in
    let whole : 0 < length events → IsWhole config first = λ some. run.whole (omega (arith, is, some)) in
    let sent : packets ≡ (answers_to config first (kept lost events)).packets = run.packets_are ∙ rw all refl in
    let alone = subst (λ (l : List PlainOut). IsIsolated config first (kept lost events) l) (sym sent)
    (isolated_at_end config first events lost whole) in
    record {
      places = subst (λ (k : ℕ). ArePlaces k lost) is run.places;
      isolated = alone;
      own_losses = lost-for_itself config first lost events packets alone;
      provenance = λ starts begin. has_provenance config starts (kept lost events) packets
          (from_start config first starts (kept lost events) packets begin alone);
      from_start = λ starts begin. from_start config first starts (kept lost events) packets begin alone;
      all_sent = sent;
      all_stand = run.states_are ∙ rw all refl;
      rejects = ap packets_for_none sent ∙ rejects_alone config first (kept lost events);
      realms = subst (λ (l : List PlainOut). AllByRecursion (HasRealm (length config.realms)) l) (sym sent)
          (realms_at_end config first events lost whole);
    }

-- at any moment: the broker stands after some of the events
pub stands_after :
    {X : Type 0} (config : X → ConfigView) (states : X → List RealmState)
    (steps : X → PlainEvent → Bool → X → Type 0) (old new : X) (events : List PlainEvent) (n : ℕ)
    (lost : List ℕ) (packets : List PlainOut) (now : ConfigView) → n ≤ length events
    → HasRun (config old) (states old) events n lost packets now (states new)
    → EachWantsMemory (config old) events lost → WereGiven steps 0 lost old (take n events) new
    → StandsAfterSome config states steps old new events
stands_after config states steps old new events n lost packets now some run wanted given = record {
  count = n;
  some = some;
  lost = lost;
  places = run.places;
  wanted = wanted;
  given = given;
  stands = run.states_are;
}

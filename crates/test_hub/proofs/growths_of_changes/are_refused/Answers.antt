use Rattle.std.proofs.Common.{◌≡◌, ◌∙◌, List, Option, None, Some, Result, Ok, Err, subst, sym}
use Rattle.std.specs.Result.{IfOk, result_ok}
use Rattle.roam_conf.specs.Config.{ConfigView}
use Rattle.roam_conf.specs.Shown.{shown}
use Rattle.roam_realm.specs.declared.start.Start.{Start}
use Rattle.roam_shard.specs.ShardView.{AreStarts}
use Rattle.test_hub.proofs.growths_of_changes.are_refused.Goals as goal

-- the starts that were had are those of the configuration
are_starts : {X E : Type 0} (c : ConfigView) (r : Result X E) (o : Option X) (x : X) (items : X → List Start)
    (starts : List Start) → IfOk r (λ v. AreStarts c (items v)) → o ≡ result_ok r → o ≡ Some x → starts ≡ items x
    → AreStarts c starts
are_starts {X} c (Ok v) o x items starts good is some same =
    let both : Some v ≡ Some x = sym is ∙ some in
    let one : v ≡ x = cc in
    subst (λ (l : List Start). AreStarts c l) (sym same) (subst (λ (y : X). AreStarts c (items y)) one good)
are_starts c (Err e) o x items starts good is some same = absurd (let none : None ≡ Some x = sym is ∙ some in cc)

pub pause_is_refused-of_pause-requires-clause-starts : goal.pause_is_refused-of_pause-requires-clause-starts
pause_is_refused-of_pause-requires-clause-starts g c = λ lifetimes outlive.
    are_starts (shown c.two_configurations-old.result.0) c.first_starts.result c.ok.result c.expect-starts.result
    (λ v. v.items) c.deref.result.now c.first_starts.ensures.good c.ok.ensures.value c.expect-starts.ensures
    c.deref.ensures.value

pub follow_is_refused-of_follow-requires-clause-starts : goal.follow_is_refused-of_follow-requires-clause-starts
follow_is_refused-of_follow-requires-clause-starts g c =
    are_starts (shown c.two_configurations-old.result.0) c.first_starts.result c.ok.result c.expect-starts.result
    (λ v. v.items) c.deref-2.result.now c.first_starts.ensures.good c.ok.ensures.value c.expect-starts.ensures
    c.deref-2.ensures.value

pub open_over_is_refused-of_open_over-requires : goal.open_over_is_refused-of_open_over-requires
open_over_is_refused-of_open_over-requires g c =
    are_starts (shown c.two_configurations-old.result.0) c.first_starts.result c.ok.result c.expect-starts.result
    (λ v. v.items) c.deref-3.result.now c.first_starts.ensures.good c.ok.ensures.value c.expect-starts.ensures
    c.deref-3.ensures.value

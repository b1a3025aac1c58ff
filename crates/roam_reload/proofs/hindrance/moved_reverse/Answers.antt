use Rattle.std.proofs.Common.{◌≡◌, Some, None, sym, ◌∙◌, arith}
use Rattle.std.specs.List.{find}
use Rattle.roam_conf.specs.Config.{RealmView}
use Rattle.roam_conf.specs.Shown.{shown}
use Rattle.roam_reload.specs.Moves.{is_moved}
use Rattle.roam_reload.specs.declared.kind.PlaceKind.TheVariants as kind
use Rattle.roam_reload.proofs.KindLemmas.{in_realms}
use Rattle.roam_reload.proofs.hindrance.moved_reverse.Goals as goal
use Rattle.roam_reload.proofs.hindrance.moved_reverse.Goals.{then-not-realm+in_default, else-not-realm}

-- one of the realm's is the first
pub returns-in-Some : goal.returns-in-Some
returns-in-Some c =
    let test = is_moved (shown c.args.new.now) kind.Reverse in
    let found : find test c.index-realms-nth.result.reverse.items ≡ Some c.in-Some.moved =
    sym c.moved_reverse_of.ensures ∙ c.in-Some.is in
    let here = in_realms test (λ (x : RealmView). x.reverse) c.args.realms.now c.loop-nth.nth
    c.index-realms-nth.result (omega arith) c.index-realms-nth.is in
    sym (rw (c.if-not-realm.true, found) at here) ∙ c.loop-nth.invariant

-- none of them is
pub loop-nth-preserved : goal.loop-nth-preserved
loop-nth-preserved c =
    let test = is_moved (shown c.args.new.now) kind.Reverse in
    let here = in_realms test (λ (x : RealmView). x.reverse) c.args.realms.now c.loop-nth.nth
    c.index-realms-nth.result (omega arith) c.index-realms-nth.is in
    elim c.if-not-realm.branch [
      | then-not-realm+in_default w ↦ (
          let none : find test c.index-realms-nth.result.reverse.items ≡ None =
          sym w.moved_reverse_of.ensures ∙ w.in_default.is in
          sym (rw (w.if-not-realm.true, none) at here) ∙ c.loop-nth.invariant)
      | else-not-realm w ↦ (sym (rw w.if-not-realm.false at here) ∙ c.loop-nth.invariant)
    ]

-- Few are due now, or something has been for long, or what is due is parted.
use Rattle.std.proofs.Common.{◌≡◌, ◌<◌, ◌-◌, ℕ, true, false, inl, inr, refl, arith, subst, sym}
use Rattle.std.proofs.lemmas.Bool.{cases_eq}
use Rattle.roam_shard.specs.Turns.{NothingDue}
use Rattle.roam_history.proofs.moment.moment_of_tick.Goals as goal

pub returns-then-has_few_due : goal.returns-then-has_few_due
returns-then-has_few_due g c =
    let yes : c.has_few_due.result ≡ true = cc in
    record { before = omega arith; soon = omega arith; due = c.requires; portion = inl (c.has_few_due.ensures.few yes) }

pub returns-then-is_due : goal.returns-then-is_due
returns-then-is_due g c =
    let yes : c.is_due.result ≡ true = cc in
    record {
      before = omega arith;
      soon = omega arith;
      due = c.requires;
      portion = inr (inr (
        refl,
        λ none. absurd (
            let quiet = subst (λ (m : ℕ). NothingDue m c.args.shard.now.states) (sym c.saturating_sub-quiet.ensures)
            none in
            let no = c.is_due.ensures.1 quiet in cc),
      ));
    }

pub parted-requires-clause-quiet : goal.parted-requires-clause-quiet
parted-requires-clause-quiet g c = (let no : c.is_due.result ≡ false = cc in c.is_due.ensures.0 no)

pub parted-requires-clause-order : goal.parted-requires-clause-order
parted-requires-clause-order g c =
    let no : c.is_due.result ≡ false = cc in
    let none = c.is_due.ensures.0 no in
    elim (cases_eq c.saturating_sub-quiet.result c.args.now) as (λ _. c.saturating_sub-quiet.result < c.args.now) [
      | inl same ↦ absurd (c.requires (subst (λ (m : ℕ). NothingDue m c.args.shard.now.states) same none))
      | inr other ↦ (let less = c.saturating_sub-quiet.ensures in omega (arith, less, other))
    ]

-- The two moments come closer until nothing is between them.
use Rattle.std.proofs.Common.{◌≡◌, ◌≤◌, ◌-◌, ℕ, true, false, inl, inr, arith, subst}
use Rattle.roam_shard.specs.Turns.{NothingDue}
use Rattle.roam_shard.specs.DueCount.{due_count}
use Rattle.roam_history.proofs.moment.parted.Goals as goal

pub loop-middle-init : goal.loop-middle-init
loop-middle-init g c = record {
  moments = record { few_are = inr c.requires.quiet; some_are = c.requires.due; order = c.requires.order };
  past = omega arith;
  from = omega arith;
}

pub loop-middle-preserved : goal.loop-middle-preserved
loop-middle-preserved g c = record {
  moments = c.narrowed-before.ensures.moments;
  past = (let within = c.narrowed-before.ensures.within in let past = c.loop-middle.invariant.past in
      omega (arith, within, past));
  from = (let closer = c.narrowed-before.ensures.from in let from = c.loop-middle.invariant.from in
      omega (arith, closer, from));
}

pub returns-then-is_due : goal.returns-then-is_due
returns-then-is_due g c =
    let yes : c.is_due.result ≡ true = cc in
    let inv = c.loop-middle.invariant in
    let order = inv.moments.order in
    let due = λ (none : NothingDue c.loop-middle.few c.args.shard.now.states). absurd (let no =
    c.is_due.ensures.1 none in cc) in
    record {
      before = (let past = inv.past in omega (arith, order, past));
      soon = (let from = inv.from in let soon = c.requires.soon in omega (arith, from, soon));
      due = due;
      portion = inl (elim inv.moments.few_are as (λ _. due_count c.loop-middle.few c.args.shard.now.states ≤ 64) [
        | inl few ↦ few
        | inr none ↦ absurd (due none)
      ]);
    }

pub returns : goal.returns
returns g c =
    let no : c.is_due.result ≡ false = cc in
    let none = c.is_due.ensures.0 no in
    let inv = c.loop-middle.invariant in
    let next = c.in_default.ensures.none in
    let is : c.loop-middle.few ≡ c.loop-middle.many - 1 = omega (arith, next) in
    record {
      before = inv.past;
      soon = (let from = inv.from in let order = inv.moments.order in let soon = c.requires.soon in
          omega (arith, from, order, soon));
      due = inv.moments.some_are;
      portion = inr (inl (subst (λ (m : ℕ). NothingDue m c.args.shard.now.states) is none));
    }

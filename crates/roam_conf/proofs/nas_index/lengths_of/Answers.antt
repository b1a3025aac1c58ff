use Rattle.std.proofs.Common.{◌≡◌, ◌≤◌, ◌∙◌, true, List, ℕ, length, subst, arith}
use Rattle.roam_conf.specs.Index.{is_marked}
use Rattle.roam_conf.proofs.SuffixLemmas.{not_before, none_left, no_owner}
use Rattle.roam_conf.proofs.TargetLemmas.{other_key}
use Rattle.roam_conf.proofs.nas_index.lengths_of.Goals as goal

-- one more key was looked at
pub loop-key-preserved : goal.loop-key-preserved
loop-key-preserved c = λ front small off.
    let marks = c.mark_length.new.marks in
    let mark = subst (λ (key : List ℕ). length key ≤ 253 → is_marked marks (length key) ≡ true)
    c.as_slice.ensures.value c.mark_length.ensures.own in
    other_key marks c.as_slice-key-items.result.now c.loop-key.key-index c.key-item.result front (omega arith)
    c.key-item.is mark small off
    ∙ c.loop-key.invariant front small (not_before c.loop-key.marks marks (length front) c.mark_length.ensures.others
    off)

-- all of them were
pub returns : goal.returns
returns c = λ front small off.
    let keys = c.as_slice-key-items.result.now in
    let none = none_left front keys c.loop-key.key-index (omega arith) (c.loop-key.invariant front small off) in
    no_owner front c.args.fronts.now.entries (rw (← c.keys.ensures.rest, ← c.as_slice-key-items.ensures) none)

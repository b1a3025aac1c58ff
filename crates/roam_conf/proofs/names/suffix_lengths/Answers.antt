use Rattle.std.proofs.Common.{◌∙◌, List, ℕ, ◌∷◌, length, subst, arith}
use Rattle.roam_conf.specs.Index.{HasMark}
use Rattle.roam_conf.proofs.SuffixLemmas.{not_before, one_less, none_left, no_owner}
use Rattle.roam_conf.proofs.names.suffix_lengths.Goals as goal

-- one more key was looked at
pub loop-key-preserved : goal.loop-key-preserved
loop-key-preserved c = λ name small off.
    let marks = c.mark_suffix.new.marks in
    let mark : HasMark marks c.key-item.result.items =
    subst (λ (key : List ℕ). HasMark marks key) c.as_slice.ensures.value c.mark_suffix.ensures.own in
    one_less marks c.as_slice-key-items.result.now c.loop-key.key-index c.key-item.result name (omega arith)
    c.key-item.is mark small off
    ∙ c.loop-key.invariant name small (not_before c.loop-key.marks marks (length name) c.mark_suffix.ensures.others off)

-- all of them were
pub returns : goal.returns
returns c = λ name small off.
    let keys = c.as_slice-key-items.result.now in
    let none = none_left (46 ∷ name) keys c.loop-key.key-index (omega arith) (c.loop-key.invariant name small off) in
    no_owner (46 ∷ name) c.args.index.now.entries (rw (← c.keys.ensures.rest, ← c.as_slice-key-items.ensures) none)

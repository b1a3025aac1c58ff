use Rattle.std.proofs.Common.{◌+◌, ◌∙◌, cond, ap, map, drop, Some, None, sym, string_bytes, arith}
use Rattle.std.specs.List.{list_any}
use Rattle.std.specs.Option.{option_or}
use Rattle.roam_conf.specs.TargetIndex.{nas_owner}
use Rattle.roam_conf.specs.Targets.{nas_said, same_nas}
use Rattle.roam_conf.proofs.TargetLemmas.{noted_both, text_at}
use Rattle.roam_conf.proofs.nas_index.note_texts.Goals as goal

-- one more text was noted
pub loop-text-preserved : goal.loop-text-preserved
loop-text-preserved c = λ p.
    let texts = c.args.texts.now in
    let i = c.loop-text.text-index in
    let text = c.text-item.result in
    let rest = list_any (same_nas p) (map nas_said (map string_bytes (drop (i + 1) texts))) in
    noted_both (nas_owner c.loop-text.index p) (nas_owner c.note_pattern.new.index p)
    (same_nas p (nas_said (string_bytes text))) rest c.args.peer (rw (
      ← c.as_bytes.ensures.value,
      ← c.nas_said.ensures,
    ) (c.in_ok-note_pattern.ensures p))
    ∙ ap (λ b. option_or (nas_owner c.loop-text.index p) (cond b (Some c.args.peer) None))
    (sym (text_at p texts i text (omega arith) c.text-item.is))
    ∙ c.loop-text.invariant p

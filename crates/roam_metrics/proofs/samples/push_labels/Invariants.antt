use Rattle.std.proofs.Common.{◌≡◌, ◌++◌, take}
use Rattle.roam_metrics.specs.Lines.{labels_text}
use Rattle.roam_metrics.proofs.samples.push_labels.Given as goal

-- the labels so far
abbrev pub invariant-loop-label : goal.invariant-loop-label
invariant-loop-label l = l.page.items ≡ l.initial.page.items ++ labels_text (take l.label-index l.labels)

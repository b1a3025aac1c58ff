-- A page: headers and samples, and nothing else.
use Rattle.std.specs.Prelude.{ℕ, List, [], ◌++◌}
use Rattle.roam_metrics.specs.Lines.{header_text, sample_text, seconds_text}
use Rattle.roam_metrics.specs.declared.samples.MetricKind.{MetricKind}
use Rattle.roam_metrics.specs.declared.samples.Label.{Label}

pub data AreLines : List ℕ → Type 0 where
  none : AreLines []
  header : (page name help : List ℕ) (kind : MetricKind) → AreLines page → AreLines (page ++ header_text name help kind)
  sample : (page name : List ℕ) (labels : List Label) (value : ℕ) → AreLines page →
      AreLines (page ++ sample_text name labels value)
  seconds : (page name : List ℕ) (labels : List Label) (value : ℕ) → AreLines page →
      AreLines (page ++ seconds_text name labels value)

-- what was a page is one with what was added
abbrev pub MoreLines : List ℕ → List ℕ → Type 0
MoreLines old new = AreLines old → AreLines new

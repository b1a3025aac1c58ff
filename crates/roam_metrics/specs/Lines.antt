-- The lines of a page in Prometheus' text format, version 0.0.4.
use Rattle.std.specs.Prelude.{ℕ, codes, ◌+◌, ◌/◌, ◌%◌, ◌==◌, List, [], ◌∷◌, ◌++◌, if◌then◌else◌}
use Rattle.std.specs.Fmt.{decimal}
use Rattle.std.specs.List.{flat_map}
use Rattle.roam_metrics.specs.declared.samples.MetricKind.{MetricKind}
use Rattle.roam_metrics.specs.declared.samples.MetricKind.TheVariants as kind
use Rattle.roam_metrics.specs.declared.samples.Label.{Label}

-- an octet of a label's value: a quotation mark (34), a reverse solidus (92) and a line feed (10) have a reverse
-- solidus
-- before them, and the line feed is the letter n (110)
abbrev pub escaped_octet : ℕ → List ℕ
escaped_octet octet =
    if octet == 34 then 92 ∷ 34 ∷ []
    else if octet == 92 then 92 ∷ 92 ∷ []
    else if octet == 10 then 92 ∷ 110 ∷ []
    else octet ∷ []

abbrev pub escaped : List ℕ → List ℕ
escaped value = flat_map escaped_octet value

-- a label: its name, and its value between quotation marks, and a comma
abbrev pub label_text : Label → List ℕ
label_text label = label.name.now ++ codes "=\"" ++ escaped label.value.now ++ codes "\","

abbrev pub labels_text : List Label → List ℕ
labels_text labels = flat_map label_text labels

-- ## Page of counts
-- Headers (what a counter means, and that it is one) and samples (a name, labels, a value), a line each. A
-- label's value is escaped, and reads back as itself.
-- Source: Prometheus' text format 0.0.4
-- Rules out: a name of a realm that forges a line
-- Stands in: `roam_metrics` `Lines.antt`: `sample_text`, `header_text`, `escaped`; `Labels.antt`: `Reads`;
-- `Pages.antt`: `AreLines`; `page`
--
-- a sample
abbrev pub sample_text : List ℕ → List Label → ℕ → List ℕ
sample_text name labels value = name ++ codes "{" ++ labels_text labels ++ codes "} " ++ decimal value ++ codes "\n"

-- a sample in seconds, of so many milliseconds: 48 is the digit 0
abbrev pub seconds_text : List ℕ → List Label → ℕ → List ℕ
seconds_text name labels milliseconds =
    name ++ codes "{" ++ labels_text labels ++ codes "} " ++ decimal (milliseconds / 1000) ++
    (46 ∷ (48 + milliseconds / 100 % 10) ∷ (48 + milliseconds / 10 % 10) ∷ (48 + milliseconds % 10) ∷ []) ++ codes "\n"

-- what a metric is
abbrev pub kind_word : MetricKind → List ℕ
kind_word kind.Counter = codes " counter\n"
kind_word kind.Gauge = codes " gauge\n"
kind_word kind.Histogram = codes " histogram\n"

-- what stands before the samples of a metric
abbrev pub header_text : List ℕ → List ℕ → MetricKind → List ℕ
header_text name help kind =
    codes "# HELP " ++ name ++ codes " " ++ help ++ codes "\n# TYPE " ++ name ++ kind_word kind

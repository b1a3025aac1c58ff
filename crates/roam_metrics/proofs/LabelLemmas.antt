-- Label values are read back.
use Rattle.std.proofs.Common.{◌≡◌, ℕ, List, [], ◌∷◌, ◌++◌, append_assoc, inl, inr, subst, sym}
use Rattle.std.proofs.lemmas.Bool.{cases_eq, ne_eqb}
use Rattle.roam_metrics.specs.Labels.{Reads, closes, plain, mark, solidus, line_feed, ReadsBack}
use Rattle.roam_metrics.specs.Lines.{escaped, escaped_octet}

-- an octet, and what is read behind it
one-octet : (octet : ℕ) (text value left : List ℕ) → Reads text value left →
    Reads (escaped_octet octet ++ text) (octet ∷ value) left
one-octet octet text value left behind =
    elim (cases_eq octet 34) [
      | inl is ↦ subst (λ (o : ℕ). Reads (escaped_octet o ++ text) (o ∷ value) left) (sym is)
          (mark text value left behind)
      | inr no_mark ↦ elim (cases_eq octet 92) [
        | inl is ↦ subst (λ (o : ℕ). Reads (escaped_octet o ++ text) (o ∷ value) left) (sym is)
            (solidus text value left behind)
        | inr no_solidus ↦ elim (cases_eq octet 10) [
          | inl is ↦ subst (λ (o : ℕ). Reads (escaped_octet o ++ text) (o ∷ value) left) (sym is)
              (line_feed text value left behind)
          | inr no_line_feed ↦
              let is : escaped_octet octet ≡ octet ∷ [] =
              rw (ne_eqb octet 34 no_mark, ne_eqb octet 92 no_solidus, ne_eqb octet 10 no_line_feed) in
              subst (λ (l : List ℕ). Reads (l ++ text) (octet ∷ value) left) (sym is)
              (plain octet text value left no_mark no_solidus no_line_feed behind)
        ]
      ]
    ]

pub reads_back : ReadsBack
reads_back [] left = closes left
reads_back (octet ∷ value) left =
    subst (λ (l : List ℕ). Reads l (octet ∷ value) left)
    (sym (append_assoc (escaped_octet octet) (escaped value) (34 ∷ left)))
    (one-octet octet (escaped value ++ 34 ∷ left) value left (reads_back value left))

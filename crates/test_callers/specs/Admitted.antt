-- The conclusion of a caller from an arrival that is some realm's event.
use Rattle.std.specs.Prelude.{◌≡◌, ℕ}
use Rattle.roam_admission.specs.Admission.{Admission, refused, answered_here, admitted}

-- it is admitted for the realm of this index
abbrev pub IsAdmittedFor : ℕ → Admission → Type 0
IsAdmittedFor realm (refused why) = ⊥
IsAdmittedFor realm (answered_here what out) = ⊥
IsAdmittedFor realm (admitted job) = job.realm ≡ realm

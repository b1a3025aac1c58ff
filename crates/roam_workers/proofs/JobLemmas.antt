-- Jobs that are set aside, and put.
use Rattle.std.proofs.Common.{◌≡◌, ◌<◌, ℕ, List, [], ◌∷◌, ◌++◌, length, get_or, refl, ap, ◌∙◌}
use Rattle.std.proofs.Math.ListN.{set}
use Rattle.std.proofs.lemmas.List.{map-append}
use Rattle.std.specs.declared.alloc.Global.{Global}
use Rattle.roam_port.proofs.ListedLemmas.{get-read}
use Rattle.roam_admission.specs.Shown.{shown_job}
use Rattle.roam_admission.specs.declared.job.Job.{Job}
use Rattle.roam_workers.specs.Jobs.{IsPutLast, jobs_of}

-- one more stands last
pub put_last :
    {Q X : Type 0} (lists : List Q) (items : Q → List X) (job_of : X → Job Global) (worker : ℕ) (q q2 : Q) (x : X)
    → worker < length lists → q ≡ get_or lists worker q → items q2 ≡ items q ++ x ∷ []
    → IsPutLast lists (set lists worker q2) (λ q. jobs_of (items q) job_of) worker (shown_job (job_of x))
put_last lists items job_of worker q q2 x within is put = record {
  before = q;
  before_is = get-read lists worker q within is;
  after = q2;
  last = ap (λ xs. jobs_of xs job_of) put ∙ map-append (λ x. shown_job (job_of x)) (items q) (x ∷ []);
  others_stay = refl;
}

-- The buckets of sessions, by keyed hashes of their rows (ours).
use Rattle.std.specs.Prelude.{ℕ, ◌%◌, List, [], ◌∷◌, Option, Some, None, option_and_then, if◌then◌else◌}
use Rattle.roam_crypto.specs.Keyed.{hash_of}
use Rattle.roam_sessions.specs.Private.Row.{id_row, whole_row}
use Rattle.roam_sessions.specs.Sessions.{Session, same_session}
use Rattle.roam_sessions.specs.declared.buckets.Buckets.{Buckets}

-- the bucket of a row; of a session by its peer and its id, and by all that it is
abbrev pub bucket_in : Buckets → List ℕ → ℕ
bucket_in b row = hash_of b.key 0 row % b.count

abbrev pub id_bucket : Buckets → Session → ℕ
id_bucket b s = bucket_in b (id_row s)

abbrev pub whole_bucket : Buckets → Session → ℕ
whole_bucket b s = bucket_in b (whole_row s)

-- the number of a bucket as the row of a group
abbrev pub bucket_text : ℕ → List ℕ
bucket_text bucket = bucket ∷ []

abbrev pub id_text : Buckets → Session → Option (List ℕ)
id_text b s = Some (bucket_text (id_bucket b s))

abbrev pub whole_text : Buckets → Session → Option (List ℕ)
whole_text b s = Some (bucket_text (whole_bucket b s))

-- what the number has that a row is
abbrev pub in_bucket : {X : Type 0} → (ℕ → Option X) → List ℕ → Option X
in_bucket I [] = None
in_bucket I (bucket ∷ []) = I bucket
in_bucket I (bucket ∷ more ∷ rest) = None

-- a ticket's session, where it is this one
abbrev pub if_same : Session → Session → Option Session
if_same s other = if same_session s other then Some other else None

abbrev pub same_at : Session → (ℕ → Option Session) → ℕ → Option Session
same_at s F t = option_and_then (if_same s) (F t)

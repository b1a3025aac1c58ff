-- The parts of a packet that are seen where it is counted.
use Rattle.std.specs.Prelude.{ℕ, List, [], ◌∷◌}
use Rattle.roam_admission.specs.Arrivals.{PlainJob}
use Rattle.roam_counters.specs.declared.turn.CountedTurn.{CountedTurn}

-- its code, the first octet (RFC 2865, section 3)
abbrev pub code_of : List ℕ → ℕ
code_of [] = 0
code_of (code ∷ rest) = code

-- a job, as what comes of it is counted
abbrev pub turn_of : PlainJob → CountedTurn
turn_of job =
    record {
      realm = job.realm;
      side = job.side;
      code = code_of job.octets;
      keeps_session = job.keeps_session;
    }

-- A station by its hash.
use Rattle.std.proofs.Common.{◌≡◌, ◌++◌, ℕ, List, Option, Some, codes, append_assoc}
use Rattle.roam_log.specs.Hashes.{hash_of}
use Rattle.roam_log.specs.declared.form.StationForm.{StationForm}
use Rattle.roam_log.specs.declared.form.StationForm.TheVariants as form
use Rattle.roam_log.specs.declared.hmac.StationKey.{StationKey}
use Rattle.roam_log.specs.Exchanges.{station_text}
use Rattle.roam_log.specs.Values.{digits_text}

pub station-hashed : (before : List ℕ) (how : StationForm) (station : Option (List ℕ)) (key : StationKey)
    (octets : List ℕ) → how ≡ form.Hashed key → station ≡ Some octets →
    before ++ codes " station=hmac:" ++ digits_text (hash_of key.block octets) ≡ before ++ station_text how station
station-hashed before how station key octets hashed stands =
    rw (hashed, stands) (append_assoc before (codes " station=hmac:") (digits_text (hash_of key.block octets)))

use Rattle.std.proofs.Common.{◌≡◌, length, option_map}
use Rattle.std.specs.Option.{option_or}
use Rattle.roam_admission.specs.UserName.{realm_part}
use Rattle.roam_admission.proofs.user_name.realm_part.Given as goal

-- what follows the last `@` of the rest, else what was found before, is what follows the last of all
abbrev pub invariant-loop-octet : goal.invariant-loop-octet
invariant-loop-octet l =
    option_or (realm_part l.rest) (option_map (λ part. part.now) l.part) ≡ realm_part l.fn.name

-- each octet is taken once
abbrev pub decreases-loop-octet : goal.decreases-loop-octet
decreases-loop-octet l = length l.rest

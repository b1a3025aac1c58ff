-- Something was printed, and more behind it.
use Rattle.std.proofs.Common.{ℕ, List, ◌++◌, Option, Result, Ok, Err, OnOk}
use Rattle.std.proofs.KnownBytes.{Appends-kept, Appends-trans}
use Rattle.std.specs.Io.KnownBytes.{Keeps}
use Rattle.roam_cli.specs.Printed.{IsPrinted}

pub printed_more : (a b c : Option (List ℕ)) → IsPrinted a b → IsPrinted b c → IsPrinted a c
printed_more a b c p q = (p.0 ++ q.0, Appends-trans a b c p.0 q.0 p.1 q.1)

pub printed_kept : (a b c : Option (List ℕ)) → IsPrinted a b → Keeps b c → IsPrinted a c
printed_kept a b c p kept = (p.0, Appends-kept a b c p.0 p.1 kept)

-- something was printed, and more behind it where that could be
pub printed_then : {T E : Type 0} (a b c : Option (List ℕ)) (r : Result T E) → IsPrinted a b
    → OnOk r (IsPrinted b c) → OnOk r (IsPrinted a c)
printed_then a b c (Ok x) p q = printed_more a b c p q
printed_then a b c (Err e) p q = tt

pub kept_then : {T E : Type 0} (a b c : Option (List ℕ)) (r : Result T E) → IsPrinted a b → Keeps b c
    → OnOk r (IsPrinted a c)
kept_then a b c (Ok x) p kept = printed_kept a b c p kept
kept_then a b c (Err e) p kept = tt

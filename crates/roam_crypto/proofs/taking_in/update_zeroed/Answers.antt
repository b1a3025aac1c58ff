use Rattle.std.proofs.Common.{◌++◌, append_assoc, subst, sym, ap, List, ℕ}
use Rattle.roam_crypto.specs.Hasher.{Holds}
use Rattle.roam_crypto.specs.Authenticators.{zero_octets}
use Rattle.roam_crypto.proofs.HashedLemmas.{zeros_same}
use Rattle.roam_crypto.proofs.taking_in.update_zeroed.Goals as goal

-- they are zeros
pub returns-then-is_same_digest : goal.returns-then-is_same_digest
returns-then-is_same_digest c = λ m held.
    let same = zeros_same zero_octets c.args.octets.now
    (rw (c.octets_before.ensures, c.as_slice.ensures) at (c.is_same_digest.ensures.0 c.if-is_same_digest.true)) in
    subst (Holds c.update.new.self) (ap (λ (t : List ℕ). m ++ t) (sym same)) (c.update.ensures m held)

-- zeros stand for them
pub returns-else-is_same_digest : goal.returns-else-is_same_digest
returns-else-is_same_digest c = λ m held.
    let taken = c.update-else-is_same_digest-2.ensures _ (c.update-else-is_same_digest.ensures m held) in
    subst (Holds c.update-else-is_same_digest-2.new.self) (append_assoc m zero_octets _)
    (rw (c.as_slice-else-is_same_digest.ensures, c.octets_from.ensures) at taken)

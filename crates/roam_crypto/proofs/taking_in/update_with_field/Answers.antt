use Rattle.std.proofs.Common.{◌++◌, subst, sym, ap, List, ℕ}
use Rattle.roam_crypto.specs.Hasher.{Holds}
use Rattle.roam_crypto.proofs.HashedLemmas.{field_same, three_pieces}
use Rattle.roam_crypto.proofs.taking_in.update_with_field.Goals as goal

-- the Authenticator stands there already
pub returns-then-is_same_digest : goal.returns-then-is_same_digest
returns-then-is_same_digest c = λ m held.
    let same = field_same c.args.authenticator c.args.octets.now
    (rw (c.authenticator_in.ensures, c.as_slice.ensures) at (c.is_same_digest.ensures.0 c.if-is_same_digest.true)) in
    subst (Holds c.update.new.self) (ap (λ (t : List ℕ). m ++ t) (sym same)) (c.update.ensures m held)

-- another one does: three pieces
pub returns-else-is_same_digest : goal.returns-else-is_same_digest
returns-else-is_same_digest c = λ m held.
    let taken = c.update-else-is_same_digest-3.ensures _
    (c.update-else-is_same_digest-2.ensures _ (c.update-else-is_same_digest.ensures m held)) in
    subst (Holds c.update-else-is_same_digest-3.new.self) (three_pieces m _ c.args.authenticator _)
    (rw (c.before_authenticator.ensures, c.as_slice-else-is_same_digest.ensures, c.behind_authenticator.ensures)
    at taken)

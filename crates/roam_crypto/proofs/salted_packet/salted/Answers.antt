use Rattle.std.proofs.Common.{◌≡◌, ◌↔◌, Bool, true, subst, sym}
use Rattle.roam_crypto.specs.SaltedValues.{IsSalted}
use Rattle.roam_crypto.proofs.SaltedTestLemmas.{means-salted}
use Rattle.roam_crypto.proofs.salted_packet.salted.Goals as goal

-- the test says whether the packet is salted
pub returns-clause-salted : goal.returns-clause-salted
returns-clause-salted c =
    subst (λ (b : Bool). (b ≡ true) ↔ IsSalted c.args.view.now) (sym c.has_salted.ensures)
    (means-salted c.args.view.now)

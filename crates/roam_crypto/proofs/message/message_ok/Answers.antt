use Rattle.std.proofs.Common.{inl, refl}
use Rattle.roam_crypto.proofs.ValueLemmas.{count_of-none}
use Rattle.roam_crypto.proofs.SealLemmas.{not_well_sealed}
use Rattle.roam_crypto.proofs.message.message_ok.Goals as goal

-- no Message-Authenticator stands there
pub returns-in-None : goal.returns-in-None
returns-in-None c =
    (λ _. inl (count_of-none c.args.view.now.attributes c.in-None.ensures), λ _. refl)

-- one stands there, but not just one of 16 octets
pub returns-in-None-message_auth : goal.returns-in-None-message_auth
returns-in-None-message_auth c = (
  λ wrong. absurd (cc wrong),
  λ sealed.
      absurd (not_well_sealed _ _ _ _ c.in-Some.ensures
      (λ one. absurd (cc (c.in-None-message_auth.ensures.stands.1 one))) sealed),
)

use Rattle.roam_crypto.specs.Authenticators.{request_authenticator, response_authenticator}
use Rattle.roam_crypto.proofs.request.request_auth.Goals as goal

-- it is the Response Authenticator over sixteen zero octets
pub returns : goal.returns
unfolding request_authenticator response_authenticator
returns c = c.response_auth.ensures

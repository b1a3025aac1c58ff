use Rattle.roam_crypto.specs.Authenticators.{zero_octets}
use Rattle.roam_crypto.proofs.ValueLemmas.{with_value-again, count_of-with_value, first_value-others, stands_in_place}
use Rattle.roam_crypto.proofs.SealLemmas.{message_authenticator-with_value, message_authenticator-with_authenticator}
use Rattle.roam_crypto.proofs.authenticator_laws.zeroing.Goals as goal

pub returns-clause-again : goal.returns-clause-again
returns-clause-again c = with_value-again zero_octets

pub returns-clause-value : goal.returns-clause-value
returns-clause-value c = message_authenticator-with_value

pub returns-clause-field : goal.returns-clause-field
returns-clause-field c = message_authenticator-with_authenticator

pub returns-clause-counts : goal.returns-clause-counts
returns-clause-counts c = λ kind value p. count_of-with_value kind value p.attributes

pub returns-clause-others : goal.returns-clause-others
returns-clause-others c = λ kind value p apart. first_value-others kind value p.attributes apart

pub returns-clause-place : goal.returns-clause-place
returns-clause-place c = stands_in_place

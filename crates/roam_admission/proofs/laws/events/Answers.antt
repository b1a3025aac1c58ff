use Rattle.roam_admission.proofs.EventLemmas.{event_realm, event_sound, event_unkept}
use Rattle.roam_admission.proofs.laws.events.Goals as goal

-- the laws are the lemmas
pub returns : goal.returns
returns c = record { realm = event_realm; sound = event_sound; without_session = event_unkept }

-- What is refused before a request is looked at.
use Rattle.std.proofs.Common.{Bool, false, ap, ◌∙◌}
use Rattle.std.specs.Prelude.{if◌then◌else◌}
use Rattle.roam_wire.specs.Packet.{Packet}
use Rattle.roam_wire.specs.declared.refusal.Refusal.TheVariants as refusal
use Rattle.roam_conf.specs.Config.{ConfigView}
use Rattle.roam_admission.specs.Admission.{Admission, Arrival, admission, checked, is_taken, packet_admission, read_admission, sent_admission, status_from}
use Rattle.roam_admission.specs.AdmittedRequests.{OtherCodeIsRefused, UnknownIsRefused, UnreadIsRefused}
use Rattle.roam_admission.specs.declared.job.Side.{Side}
use Rattle.roam_admission.proofs.AdmittedLemmas.{as_sent, taken_code}
use Rattle.roam_admission.proofs.RequestTestLemmas.{is_false}

pub unread-is_refused : UnreadIsRefused
unfolding admission
unread-is_refused config a why read = ap (read_admission config a) read

pub unknown-is_refused : UnknownIsRefused
unknown-is_refused config a p read none =
    as_sent config a p read ∙ ap (sent_admission config a p) none

-- what is given by whether it is a Status-Server, and whether its code is taken
abbrev given_by : ConfigView → Arrival → Packet → Side → Bool → Bool → Admission
given_by config a p s status taken =
    if status then status_from config a s p
    else checked taken refusal.WrongCode (packet_admission config a s p a.at)

pub other-code_is_refused : OtherCodeIsRefused
other-code_is_refused config a p s read from of other status =
    let taken = is_false (is_taken a.at s p.code) (λ is. other (taken_code a.at s p.code of is)) in
    as_sent config a p read
    ∙ ap (sent_admission config a p) from
    ∙ ap (λ (b : Bool). given_by config a p s b (is_taken a.at s p.code)) status
    ∙ ap (given_by config a p s false) taken

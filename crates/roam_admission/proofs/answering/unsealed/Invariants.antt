use Rattle.roam_admission.proofs.AnswerLemmas.{IsFilling}
use Rattle.roam_admission.proofs.answering.unsealed.Given as goal

-- the packet so far, with the Proxy-States that are left, is the whole
abbrev pub invariant-loop-attribute : goal.invariant-loop-attribute
invariant-loop-attribute g l = IsFilling l.fn.code l.fn.request l.attribute-iterator l.packet

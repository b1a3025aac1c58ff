use Rattle.roam_forward.specs.Removal.{removed_by}
use Rattle.roam_reply.specs.Returned.{is_own}
use Rattle.roam_reply.proofs.PassingLemmas.{IsCountedBack}
use Rattle.roam_reply.proofs.plain_packet.carried_len.Given as goal

-- the octets of all that is returned but of those that are left were counted
abbrev pub invariant-loop-attribute : goal.invariant-loop-attribute
invariant-loop-attribute l =
    IsCountedBack l.fn.terms.access (removed_by l.fn.terms.removal.now)
    (is_own l.fn.terms.own l.fn.terms.request.now) l.fn.reply.attributes
    l.attribute-iterator l.size

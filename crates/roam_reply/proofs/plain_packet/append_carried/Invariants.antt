use Rattle.std.proofs.Common.{◌≡◌, vec_len, vec_capacity}
use Rattle.roam_forward.specs.Removal.{removed_by}
use Rattle.roam_reply.specs.Returned.{is_own}
use Rattle.roam_reply.proofs.PassingLemmas.{IsReturning}
use Rattle.roam_reply.proofs.plain_packet.append_carried.Given as goal

-- what is returned of all but those that are left was appended, and there is room for these
abbrev pub invariant-loop-next : goal.invariant-loop-next
invariant-loop-next g l = record {
  returning : IsReturning l.fn.terms.access (removed_by l.fn.terms.removal.now)
      (is_own l.fn.terms.own l.fn.terms.request.now) l.fn.reply.attributes
      l.next-iterator l.fn.out.items l.out.items (vec_len l.out) (vec_capacity l.out);
  capacity : vec_capacity l.out ≡ vec_capacity l.fn.out;
}

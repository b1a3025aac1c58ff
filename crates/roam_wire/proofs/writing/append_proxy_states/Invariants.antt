use Rattle.std.proofs.Common.{◌≡◌, vec_len, vec_capacity}
use Rattle.roam_wire.specs.Attributes.{has_kind}
use Rattle.roam_wire.specs.declared.attribute_type.TheConstants.{PROXY_STATE}
use Rattle.roam_wire.proofs.KeptLemmas.{IsAppending}
use Rattle.roam_wire.proofs.writing.append_proxy_states.Given as goal

-- all that are appended but those that are left were appended, and there is room for these
abbrev pub invariant-loop-next : goal.invariant-loop-next
invariant-loop-next g l = record {
  appending : IsAppending (has_kind PROXY_STATE) l.fn.request.attributes l.next-iterator l.fn.out.items l.out.items
      (vec_len l.out) (vec_capacity l.out);
  capacity : vec_capacity l.out ≡ vec_capacity l.fn.out;
}
